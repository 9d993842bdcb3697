-- What it says that a book takes another deal: each test is its fact, both ways. Assumes nothing.
use mathlib.Core.Path.{◌≡◌, ap₂}
use mathlib.Core.Bool.{true, ◌&&◌}
use Prim.Native.Nat.{ℕ, ◌≤◌, ◌<◌}
use lib.Dec.{ltb, leb, ltb→lt, leb→le, lit<}
use lib.IntN.{ℤ}
use lib.Signed.{le_z, le_z_yes}
use borrow.Author.Tests.{lt-ltb, le-leb}
use Rattle.lists.proofs.Finite.{and_left, and_right, T→true, true→t, below_four}
use Rattle.seat_book.specs.declared.SeatBook.{SeatBook}
use Rattle.seat_book.specs.Points.{least, most, is_within}
use Rattle.seat_book.specs.Book.{points_of, most_deals, most_sticks, has_room}
use Rattle.seat_book.specs.Refusals.{Within, Roomy}

-- the tests of a book that takes another deal
pub record Room (b : SeatBook) : Type 0 where
  pub deals : b.deals < most_deals
  pub sticks : b.sticks ≤ most_sticks
  pub seats : (s : ℕ) → s < 4 → is_within (points_of b s) ≡ true

pub rooms : (b : SeatBook) → has_room b ≡ true → Room b
rooms b h =
    let w₀ = is_within (points_of b 0) in
    let w₁ = is_within (points_of b 1) in
    let w₂ = is_within (points_of b 2) in
    let w₃ = is_within (points_of b 3) in
    let few = leb b.sticks most_sticks in
    let all = true→t (has_room b) h in
    let t₁ = and_right (ltb b.deals most_deals) (few && (w₀ && (w₁ && (w₂ && w₃)))) all in
    let t₂ = and_right few (w₀ && (w₁ && (w₂ && w₃))) t₁ in
    let t₃ = and_right w₀ (w₁ && (w₂ && w₃)) t₂ in
    let t₄ = and_right w₁ (w₂ && w₃) t₃ in
    record {
      deals = ltb→lt b.deals most_deals (and_left (ltb b.deals most_deals) _ all);
      sticks = leb→le b.sticks most_sticks (and_left few _ t₁);
      seats =
          below_four (λ s. is_within (points_of b s) ≡ true) (T→true w₀ (and_left w₀ _ t₂)) (T→true w₁ (and_left w₁ _ t₃)) (T→true w₂ (and_left w₂ w₃ t₄))
          (T→true w₃ (and_right w₂ w₃ t₄));
    }

-- ---- a seat within its limits
is_within_holds : (p : ℤ) → is_within p ≡ true → Within p
is_within_holds p h = let t = true→t (is_within p) h in (le_z_yes (and_left (le_z least p) (le_z p most) t), le_z_yes (and_right (le_z least p) (le_z p most) t))

within_is : (p : ℤ) → Within p → is_within p ≡ true
within_is p h = ap₂ (λ s t. s && t) (T→true (le_z least p) h.0.le) (T→true (le_z p most) h.1.le)

-- ---- a book
pub is_roomy : (b : SeatBook) → has_room b ≡ true → Roomy b
is_roomy b h = let r = rooms b h in record { deals = r.deals; points = λ s i. is_within_holds (points_of b s) (r.seats s i); sticks = r.sticks }

pub roomy_is : (b : SeatBook) → Roomy b → has_room b ≡ true
roomy_is b h =
    let at : (s : ℕ) → s < 4 → is_within (points_of b s) ≡ true = λ s i. within_is (points_of b s) (h.points s i) in
    ap₂ (λ s t. s && t) (lt-ltb b.deals most_deals h.deals)
    (ap₂ (λ s t. s && t) (le-leb b.sticks most_sticks h.sticks)
    (ap₂ (λ s t. s && t) (at 0 (lit< tt)) (ap₂ (λ s t. s && t) (at 1 (lit< tt)) (ap₂ (λ s t. s && t) (at 2 (lit< tt)) (at 3 (lit< tt))))))
