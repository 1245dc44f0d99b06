-- The links: what the contracts promise, and what the texts of `daybook` are, are runs as `runs` means them. So
-- demand 3, under its premises, and the facts of every run hold of what the code does; and a change of contracts, runs
-- or texts that breaks this is refused. In reading order:
-- Operations: an operation that keeps its contract is a call of a run, at a seat under the newest rules
-- (`ContractServes`, `OperatedConforms`). Seats that lend their words from operation to operation make runs that obey
-- (`WorksObeys`), and could make every such run (`ObeysWorks`). So demand 3 and the facts hold of what they do
-- (`WorksDemand3`, `WorksFacts`).
pub mod Operations
-- Texts: the lines of a bundle's text are a run at one seat, and account for it (`EveryText`); they are read
-- in one way (`OneReading`); every such run has its text (`EveryRun`); and the waiting list behind a bundle
-- is one more call (`EveryList`).
pub mod Texts
