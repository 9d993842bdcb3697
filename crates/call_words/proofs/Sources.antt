-- What a word that says whom a call came from makes of the calls. Assumes nothing.
use mathlib.Core.Path.{◌≡◌, refl, ap, ◌∙◌}
use mathlib.Core.List.{List}
use Prim.Native.Nat.{ℕ, ◌+◌, ◌-◌, ◌<◌, min}
use native.Mathlib.Omega.{arith}
use lib.Dec.{T}
use lib.ListN.{length, get_or, set}
use lib.Seq.{set_out, set-set, get_or-set_same}
use Rattle.lists.proofs.Finite.{and_left, and_right, and_both}
use Rattle.meld.specs.declared.Meld.{Meld}
use Rattle.meld.specs.Meld.{is_shaped, is_sourced, is_meld, is_call, meld, uses, from_seat}
use Rattle.checks.specs.declared.Calls.{Calls}
use Rattle.call_words.specs.Calls.{with_call, last_call, with_source}

-- the calls with another meld at the place i, where that is the last
pub at_last :
    (k : Calls) (s i : ℕ) (x m : Meld) (ms : List Meld) → ms ≡ set k.melds i m → m ≡ from_seat s x → x ≡ get_or k.melds i (meld 0 0) → i ≡ k.count - 1
    → record { count = k.count; melds = ms } ≡ with_source s k
at_last k s i x m ms kept from there last =
    ap (λ (l : List Meld). record { count = k.count; melds = l })
    (kept ∙ ap (set k.melds i) (from ∙ ap (from_seat s) there) ∙ ap (λ (n : ℕ). set k.melds n (from_seat s (get_or k.melds n (meld 0 0)))) last)

-- said behind a call, the word is about that call alone: as if it had been called from there at once
pub said_behind : (k : Calls) (m : Meld) (s : ℕ) → length k.melds ≡ 4 → k.count < 4 → with_source s (with_call k m) ≡ with_call k (from_seat s m)
said_behind k m s four h = λ i. record { count = min (k.count + 1) 1000; melds = melds i }
  where
    place : min (k.count + 1) 1000 - 1 ≡ k.count
    place = omega arith

    last : get_or (set k.melds k.count m) k.count (meld 0 0) ≡ m
    last = get_or-set_same k.melds k.count m (meld 0 0) (omega arith)

    melds : (with_source s (with_call k m)).melds ≡ set k.melds k.count (from_seat s m)
    melds =
        ap (λ (n : ℕ). set (set k.melds k.count m) n (from_seat s (get_or (set k.melds k.count m) n (meld 0 0)))) place
        ∙ ap (λ (x : Meld). set (set k.melds k.count m) k.count (from_seat s x)) last
        ∙ set-set k.melds k.count m (from_seat s m)

-- behind a fifth call, which is not kept, it changes nothing
pub fifth_stays : (k : Calls) (s : ℕ) → length k.melds ≡ 4 → 4 < k.count → with_source s k ≡ k
fifth_stays k s four h = λ i. record { count = k.count; melds = set_out k.melds (k.count - 1) (from_seat s (last_call k)) (omega arith) i }

-- a call that can come from there stays a call
pub stays_call : (m : Meld) (s : ℕ) → T (is_call m) → T (is_sourced (from_seat s m)) → T (is_call (from_seat s m))
stays_call m s c h =
    let shaped = and_left (is_shaped m) _ (and_left (is_meld m) _ c) in
    and_both (is_meld (from_seat s m)) _ (and_both (is_shaped m) _ shaped h) (and_right (is_meld m) _ c)

-- and has the same tiles
pub same_tiles : (m : Meld) (s t : ℕ) → uses (from_seat s m) t ≡ uses m t
same_tiles m s t = refl
