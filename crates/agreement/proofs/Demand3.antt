-- Demand 3, whole: the statement is `Demand3` in Claims.antt of the crate runs.
use mathlib.Core.Path.{sym, ◌∙◌}
use Rattle.runs.specs.Claims.{Demand3}
use Rattle.agreement.proofs.Places.{obeys_before}
use Rattle.agreement.proofs.Slated.{slated, told_slate}
use Rattle.agreement.proofs.Agree.{accepted_agree}
use Rattle.agreement.proofs.EqualCounts.{counts_balances}

pub demand3 : Demand3
demand3 o bad run opens few at_honest obeys kept =
    record {
      agree = accepted_agree o bad run opens few obeys kept;
      balances = λ p s a w fair. (slated o opens s p (obeys_before o obeys w)).balance_is a;
      counts = λ p s a w fair. (slated o opens s p (obeys_before o obeys w)).count_is a;
      told = λ p e a b w is. told_slate o run p e a b opens obeys w is;
      equal_counts = λ p q s z w fair v fairly equal a.
          let one = slated o opens s p (obeys_before o obeys w) in
          let two = slated o opens z q (obeys_before o obeys v) in
          let same =
          counts_balances o run opens obeys (accepted_agree o bad run opens few obeys kept) p q s z w v
          (λ c known. one.count_is c ∙ (equal c known ∙ sym (two.count_is c))) a in
          sym (one.balance_is a) ∙ (same ∙ two.balance_is a);
    }
