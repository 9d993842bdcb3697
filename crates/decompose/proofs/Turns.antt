-- What a turn of the loops over the pairs does. What is found so far and what is found with the tiles from p on make the whole.
-- Assumes nothing.
use mathlib.Core.Path.{◌≡◌, refl, sym, ap, ap₂, ◌∙◌}
use mathlib.Core.Bool.{Bool, cond}
use mathlib.Core.List.{List, [], ◌++◌}
use Prim.Native.Nat.{ℕ, zero, suc, ◌+◌, ◌-◌, ◌*◌, ◌%◌, ◌≤◌, ◌<◌}
use native.Mathlib.Decide.{dec_lt}
use native.Mathlib.Omega.{arith}
use lib.ListN.{length, length-append}
use lib.Seq.{sets, length-sets}
use borrow.Author.Tests.{le-leb, lt-leb}
use Rattle.lists.specs.Fold.{flat, up_from}
use Rattle.tile.specs.Tile.{tiles}
use Rattle.meld.specs.declared.Meld.{Meld}
use Rattle.hand.specs.Readings.{less_pair, meld_lists}
use Rattle.hand.proofs.Sums.{up_from_next_holds, up_from_end_holds}
use Rattle.search.specs.declared.remaining.Remaining.{Remaining}
use Rattle.search.specs.Remaining.{split, left}
use Rattle.search.specs.Slots.{records_with}
use Rattle.search.proofs.Slots.{sets_append}
use Rattle.decompose.specs.Pairs.{with_pair, found_with, records_over, OnlyAt}

-- ---- what g gives at the tiles from p on, where it gives something only at every third tile from first on, below end
module _ {B : Type 0} (g : ℕ → List B) where
  abbrev from : ℕ → List B
  from p = flat g (up_from (34 - p) p)

  from_next : (p : ℕ) → p < 34 → from p ≡ g p ++ from (p + 1)
  from_next p h = ap (flat g) (up_from_next_holds p 34 h)

  from_end : (p : ℕ) → 34 ≤ p → from p ≡ []
  from_end p h = ap (flat g) (up_from_end_holds p 34 h)

  pass : (p : ℕ) → (p < 34 → g p ≡ []) → Dec (p < 34) → from p ≡ from (p + 1)
  pass p e (yes h) = from_next p h ∙ ap (λ (l : List B). l ++ from (p + 1)) (e h)
  pass p e (no h) = from_end p (omega arith) ∙ sym (from_end (p + 1) (omega arith))

  skip : (k p : ℕ) → ((q : ℕ) → p ≤ q → q < p + k → q < 34 → g q ≡ []) → from p ≡ from (p + k)
  skip zero p e = let z : p ≡ p + 0 = omega arith in ap from z
  skip (suc k) p e =
      let z : p + 1 + k ≡ p + suc k = omega arith in
      pass p (e p (omega arith) (omega arith)) (dec_lt p 34) ∙ skip k (p + 1) (λ q h i. e q (omega arith) (omega arith)) ∙ ap from z

  module _
      (first end : ℕ) (before : (p : ℕ) → p < first → p < 34 → g p ≡ []) (between : (p : ℕ) → (p % 3 ≡ first % 3 → ⊥) → p < 34 → g p ≡ [])
      (behind : (p : ℕ) → end ≤ p → p < 34 → g p ≡ [])
    where
      start : from 0 ≡ from first
      start = let z : 0 + first ≡ first = omega arith in skip first 0 (λ q h k. before q (omega arith)) ∙ ap from z

      turn : (p : ℕ) → p % 3 ≡ first % 3 → p < 34 → from p ≡ g p ++ from (p + 3)
      turn p e h =
          let z : p + 1 + 2 ≡ p + 3 = omega arith in
          from_next p h ∙ ap (λ (l : List B). g p ++ l) (skip 2 (p + 1) (λ q i k. between q (λ f. omega arith)) ∙ ap from z)

      stop : (p : ℕ) → end ≤ p → from p ≡ []
      stop p h = skip 34 p (λ q i k. behind q (omega arith)) ∙ from_end (p + 34) (omega arith)

module _ (n : ℕ) (c : ℕ → ℕ) where
  -- ---- what is found with the pair p
  pair_there : (p : ℕ) → 2 ≤ c p → with_pair n c p ≡ meld_lists n (less_pair c p)
  unfolding with_pair
  pair_there p h = ap (λ (b : Bool). cond b (meld_lists n (less_pair c p)) []) (le-leb 2 (c p) h)

  pair_missing : (p : ℕ) → c p < 2 → with_pair n c p ≡ []
  unfolding with_pair
  pair_missing p h = ap (λ (b : Bool). cond b (meld_lists n (less_pair c p)) []) (lt-leb 2 (c p) h)

  -- what the search finds without the pair
  module _ (p : ℕ) (two : 2 ≤ c p) (r : Remaining) (less : left (split r) ≡ less_pair c p) where
    pub found_there : meld_lists n (left (split r)) ≡ with_pair n c p
    found_there = ap (meld_lists n) less ∙ sym (pair_there p two)

  -- ---- what is found with the tiles from p on
  abbrev found : ℕ → List (List Meld)
  found = from (with_pair n c)

  -- so many are counted before the tile p
  pub record Counted (first total p : ℕ) : Type 0 where
    pub place : p % 3 ≡ first % 3
    pub within : p ≤ 36
    pub few : total ≤ 16 * p
    pub whole : total + length (found p) ≡ length (found_with n c tiles)

  module _ (first end : ℕ) (only : OnlyAt c (record { first = first; end = end })) where
    pub count_first : Counted first 0 first
    unfolding found_with
    count_first = record {
      place = refl;
      within = (let h = only.starts in omega arith);
      few = omega arith;
      whole = let e = ap length (start (with_pair n c) first end (only.before n) (only.between n) (only.behind n)) in omega arith;
    }

    module _ (total p : ℕ) (inv : Counted first total p) (more : p < end) where
      pub count_on : (res total' : ℕ) → res ≡ length (with_pair n c p) → res ≤ 16 → total' ≡ total + res → Counted first total' (p + 3)
      count_on res total' e few t =
          let h = only.ends in
          let s = simp length-append at (ap length (turn (with_pair n c) first end (only.before n) (only.between n) (only.behind n) p inv.place (omega arith))) in
          record { place = omega arith; within = omega arith; few = omega arith; whole = omega arith }

      pub count_past : c p < 2 → (total' : ℕ) → total' ≡ total → Counted first total' (p + 3)
      count_past h total' t = count_on 0 total' (sym (ap length (pair_missing p h))) (omega arith) (omega arith)

    pub count_last : (total p : ℕ) → Counted first total p → end ≤ p → (total ≡ length (found_with n c tiles)) × (total ≤ 2176)
    count_last total p inv h =
        let e = ap length (stop (with_pair n c) first end (only.before n) (only.between n) (only.behind n) p h) in
        (omega arith, omega arith)

  -- ---- what is written with them
  module _ (slots : List ℕ) where
    abbrev written : ℕ → List ℕ
    written p = records_with p slots (with_pair n c p)

    abbrev text : ℕ → List ℕ
    text = from written

    nothing_written : (p : ℕ) → with_pair n c p ≡ [] → written p ≡ []
    unfolding records_with
    nothing_written p e = ap (records_with p slots) e

    module _ (out₀ : List ℕ) (at : ℕ) where
      -- the buffer is written up to pos with what is found before the tile p
      pub record Written (first : ℕ) (out : List ℕ) (pos p : ℕ) : Type 0 where
        pub third : p % 3 ≡ first % 3
        pub place : pos + length (text p) ≡ at + length (records_over n c slots tiles)
        pub rest : sets out pos (text p) ≡ sets out₀ at (records_over n c slots tiles)
        pub kept : length out ≡ length out₀

      module _ (first end : ℕ) (only : OnlyAt c (record { first = first; end = end })) where
        before_none : (p : ℕ) → p < first → p < 34 → written p ≡ []
        before_none p h k = nothing_written p (only.before n p h k)

        between_none : (p : ℕ) → (p % 3 ≡ first % 3 → ⊥) → p < 34 → written p ≡ []
        between_none p h k = nothing_written p (only.between n p h k)

        behind_none : (p : ℕ) → end ≤ p → p < 34 → written p ≡ []
        behind_none p h k = nothing_written p (only.behind n p h k)

        pub write_first : Written first out₀ at first
        unfolding records_over
        write_first =
            let e = start written first end before_none between_none behind_none in
            record { third = refl; place = ap (λ (l : List ℕ). at + length l) (sym e); rest = ap (sets out₀ at) (sym e); kept = refl }

        module _ (out : List ℕ) (pos p : ℕ) (inv : Written first out pos p) (more : p < end) where
          module _ (ls : List (List Meld)) (same : ls ≡ with_pair n c p) where
            now_text : text p ≡ records_with p slots ls ++ text (p + 3)
            now_text =
                let h = only.ends in
                turn written first end before_none between_none behind_none p inv.third (omega arith)
                ∙ ap (λ (l : List (List Meld)). records_with p slots l ++ text (p + 3)) (sym same)

            pub write_room : at + length (records_over n c slots tiles) ≤ length out₀ → pos + length (records_with p slots ls) ≤ length out
            write_room room = omega (arith, simp length-append at (ap length now_text))

            pub write_on : (out' : List ℕ) (pos' : ℕ) → pos' ≡ pos + length (records_with p slots ls) → out' ≡ sets out pos (records_with p slots ls)
                → Written first out' pos' (p + 3)
            write_on out' pos' i j = record {
              third = omega arith;
              place = omega (arith, simp length-append at (ap length now_text));
              rest =
                  ap₂ (λ (o : List ℕ) (k : ℕ). sets o k (text (p + 3))) j i
                  ∙ sym (sets_append (records_with p slots ls) (text (p + 3)) out pos)
                  ∙ ap (λ (l : List ℕ). sets out pos l) (sym now_text)
                  ∙ inv.rest;
              kept = ap length j ∙ length-sets out pos (records_with p slots ls) ∙ inv.kept;
            }

          pub write_past : c p < 2 → (out' : List ℕ) (pos' : ℕ) → pos' ≡ pos → out' ≡ out → Written first out' pos' (p + 3)
          unfolding records_with
          write_past h out' pos' i j = write_on [] (sym (pair_missing p h)) out' pos' (omega arith) j

        pub write_last : (out : List ℕ) (pos p : ℕ) → Written first out pos p → end ≤ p
            → (pos ≡ at + length (records_over n c slots tiles)) × (out ≡ sets out₀ at (records_over n c slots tiles))
        write_last out pos p inv h =
            let e = stop written first end before_none between_none behind_none p h in
            (omega (arith, inv.place, ap length e), ap (λ (l : List ℕ). sets out pos l) (sym e) ∙ inv.rest)
