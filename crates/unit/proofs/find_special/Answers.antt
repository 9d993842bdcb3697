-- `unit::find_special` meets its contract. Assumes nothing.
use Rattle.std.proofs.Common.{◌≡◌, ℕ, ◌+◌, false, cond, List, ◌++◌, length, sym, ap, ap₂, ◌∙◌, rules}
use Rattle.std.specs.Prelude.{None, is_some}
use Rattle.hand.specs.Counts.{held}
use Rattle.hand.specs.Records.{records}
use Rattle.hand.specs.Readings.{is_pairs, seven_pairs, thirteen_orphans}
use Rattle.special.specs.Doubled.{doubled_in}
use Rattle.checks.specs.declared.checked.CheckedHand.{CheckedHand}
use Rattle.checks.specs.Checks.{called}
use Rattle.checks.proofs.Passed.{passed, called_length}
use Rattle.unit.specs.declared.FoundSpecial.{FoundSpecial}
use Rattle.unit.specs.FirstPass.{FindsSpecial, specials, seven_records, orphan_records, special_records}
use Rattle.unit.proofs.Special.{special_records_holds, special_count, nothing_called_holds, something_called}
use Rattle.unit.proofs.find_special.Goals as goal

module _ (hand : CheckedHand) (four : length hand.calls.melds ≡ 4) (f : FoundSpecial) where
  abbrev cs : List ℕ
  cs = hand.counts.now

  long : length (called hand.calls) ≡ hand.calls.count
  long = called_length hand.calls (passed cs hand.calls hand.passed).few four

  -- beside a call nothing is found
  beside_call : (hand.calls.count ≡ 0 → ⊥) → f.seven ≡ false → f.orphan ≡ None → FindsSpecial cs hand.calls f
  unfolding special_records specials
  beside_call some seven orphan =
      let none = something_called (called hand.calls) (λ e. some (sym long ∙ e)) (seven_pairs (held cs) ++ thirteen_orphans (held cs)) in
      record {
        calls = long;
        listed = ap records none ∙ sym (ap₂ (λ b p. seven_records cs b ++ orphan_records p) seven orphan);
        counted = ap length none ∙ sym (ap₂ (λ b p. cond b 1 0 + cond (is_some p) 1 0) seven orphan);
        pairs = λ e. cc;
      }

  -- else what the counts tell
  by_counts : hand.calls.count ≡ 0 → f.seven ≡ is_pairs (held cs) → thirteen_orphans (held cs) ≡ doubled_in f.orphan → FindsSpecial cs hand.calls f
  unfolding special_records specials
  by_counts zero seven orphan =
      let none = nothing_called_holds (called hand.calls) (long ∙ zero) (seven_pairs (held cs) ++ thirteen_orphans (held cs)) in
      record {
        calls = long;
        listed = ap records none ∙ special_records_holds cs f.seven f.orphan seven orphan;
        counted = ap length none ∙ special_count cs f.seven f.orphan seven orphan;
        pairs = λ e. sym seven ∙ e;
      }

pub returns-then-count-ne0 : goal.returns-then-count-ne0
returns-then-count-ne0 c =
    let e = c.default.ensures in
    beside_call c.args.hand (search rules) _ c.if-count-ne0.true e.0 e.1

pub returns-then-not-may_be_special : goal.returns-then-not-may_be_special
returns-then-not-may_be_special c =
    let no = c.if-not-may_be_special.true in
    let e = c.default-then-not-may_be_special.ensures in
    by_counts c.args.hand (search rules) _ c.if-count-ne0.false (e.0 ∙ sym (c.may_be_special.ensures.0 no))
    (c.may_be_special.ensures.1 no ∙ sym (ap doubled_in e.1))

pub returns : goal.returns
returns c = by_counts c.args.hand (search rules) _ c.if-count-ne0.false c.is_chiitoitsu.ensures c.check_kokushi.ensures.found
