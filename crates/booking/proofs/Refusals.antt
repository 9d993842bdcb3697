-- The number that refuses a booking: that of the first check that fails, in the words of document 02. What scoring asks stands in its place as any list of
-- checks that scoring answers. Assumes nothing.
use mathlib.Core.Path.{◌≡◌, refl, subst}
use mathlib.Core.Logic.{◌↔◌, ◌⊎◌, inl, inr}
use mathlib.Core.Bool.{Bool, true, false, cond, ◌&&◌, not}
use mathlib.Core.List.{List, [], ◌∷◌, ◌++◌}
use Prim.Native.Nat.{ℕ, ◌<◌}
use lib.Dec.{T, eqb, ltb}
use borrow.Author.Tests.{lt-ltb, ltb-true, eq-eqb, ne_eqb, eqb-true, eqb-false}
use Rattle.lists.specs.Refusals.{Check, Answers, unless}
use Rattle.context.specs.declared.GameContext.{GameContext}
use Rattle.checks.specs.declared.Calls.{Calls}
use Rattle.checks.proofs.InOrder.{numbered, then_checks, exactly}
use Rattle.choice.specs.declared.ScoreAnswer.{ScoreAnswer}
use Rattle.win.specs.Win.{score_win}
use Rattle.seat_book.specs.declared.SeatBook.{SeatBook}
use Rattle.seat_book.specs.declared.Deal.{Deal}
use Rattle.seat_book.specs.Book.{has_room}
use Rattle.seat_book.specs.Refusals.{Roomy}
use Rattle.seat_book.specs.History.{Outcome, refused, settles, number_of}
use Rattle.seat_book.proofs.Rooms.{is_roomy, roomy_is}
use Rattle.settlements.specs.declared.Winner.{Winner}
use Rattle.settlements.specs.Settlements.{win_settlement, draw_settlement}
use Rattle.booking.specs.Booking.{are_seats, seated, raising, scored_outcome, win_outcome, draw_outcome}
use Rattle.booking.specs.Refusals.{Seated, Countable, win_book_checks, draw_book_checks}
use Rattle.booking.proofs.Seats.{is_seated, seated_is}

never : {X : Type 0} → ◌≡◌ {A = Bool} false true → X
never e = absurd (subst (λ b. T (not b)) e tt)

-- one check, which is the test t and asks A, and those after it, which say R
asked :
    (t : Bool) (m : ℕ) (o : Outcome) (A : Type 0) (R : ℕ → Type 0) → (t ≡ true → A) → (A → t ≡ true) → R (number_of o)
    → (A × R (number_of (cond t o (refused m)))) ⊎ ((A → ⊥) × (number_of (cond t o (refused m)) ≡ m))
asked true m o A R f g r = inl (f refl, r)
asked false m o A R f g r = inr (λ a. never (g a), refl)

-- ---- a win
-- the counter, last of all
countable :
    (b : SeatBook) (d : Deal) (p : Winner) (r full : Bool) → eqb p.seat d.dealer ≡ r → eqb b.counter 255 ≡ full → (o : Outcome) → number_of o ≡ 0
    → Answers (unless 16 (Countable b d p) ∷ []) (number_of (cond (r && full) (refused 16) o))
countable b d p true true e f o z = inr (λ h. h (eqb-true p.seat d.dealer e) (eqb-true b.counter 255 f), refl)
countable b d p true false e f o z = inl (λ _. eqb-false b.counter 255 f, z)
countable b d p false full e f o z = inl (λ s. absurd (eqb-false p.seat d.dealer e s), z)

module _ (b : SeatBook) (d : Deal) (p : Winner) (xs : List Check) (above : T (numbered xs)) where
  scored_answers : (a : ScoreAnswer) → Answers xs a.number → Answers (xs ++ (unless 16 (Countable b d p) ∷ [])) (number_of (scored_outcome b d p a))
  unfolding scored_outcome raising win_settlement
  scored_answers a answered =
      then_checks xs (unless 16 (Countable b d p) ∷ []) above a.number (number_of (scored_outcome b d p a)) answered (λ z. rw (ne_eqb a.number 0 z))
      (λ z.
      rw (eq-eqb a.number 0 z)
      (countable b d p (eqb p.seat d.dealer) (eqb b.counter 255) refl refl (settles (win_settlement a.score.payment b.counter p d)) refl))

  module _ (cs : List ℕ) (k : Calls) (w : GameContext) (answered : Answers xs (score_win cs k (seated d p w)).number) where
    win_answers : Answers (win_book_checks b d p xs) (number_of (win_outcome b cs k w d p))
    unfolding win_outcome
    win_answers =
        let later = xs ++ (unless 16 (Countable b d p) ∷ []) in
        let o = scored_outcome b d p (score_win cs k (seated d p w)) in
        asked (are_seats d p) 15 (cond (has_room b) o (refused 16)) (Seated d p) (Answers (unless 16 (Roomy b) ∷ later)) (is_seated d p) (seated_is d p)
        (asked (has_room b) 16 o (Roomy b) (Answers later) (is_roomy b) (roomy_is b) (scored_answers (score_win cs k (seated d p w)) answered))

    -- n is answered exactly where the checks before it pass and this one fails; 0 where all pass
    pub win_book_refusals_by : (n : ℕ) → (number_of (win_outcome b cs k w d p) ≡ n) ↔ Answers (win_book_checks b d p xs) n
    win_book_refusals_by = exactly (win_book_checks b d p xs) (number_of (win_outcome b cs k w d p)) win_answers

-- ---- a draw
module _ (b : SeatBook) (d : Deal) where
  raising_answers : Answers (unless 16 (b.counter ≡ 255 → ⊥) ∷ []) (number_of (raising b draw_settlement))
  unfolding raising draw_settlement
  raising_answers = go (eqb b.counter 255) refl
    where
      go : (t : Bool) → eqb b.counter 255 ≡ t → Answers (unless 16 (b.counter ≡ 255 → ⊥) ∷ []) (number_of (cond (true && t) (refused 16) (settles draw_settlement)))
      go true e = inr (λ h. h (eqb-true b.counter 255 e), refl)
      go false e = inl (eqb-false b.counter 255 e, refl)

  draw_answers : Answers (draw_book_checks b d) (number_of (draw_outcome b d))
  unfolding draw_outcome
  draw_answers =
      let o = raising b draw_settlement in
      asked (ltb d.dealer 4) 15 (cond (has_room b) o (refused 16)) (d.dealer < 4) (Answers (unless 16 (Roomy b) ∷ unless 16 (b.counter ≡ 255 → ⊥) ∷ []))
      (ltb-true d.dealer 4) (lt-ltb d.dealer 4)
      (asked (has_room b) 16 o (Roomy b) (Answers (unless 16 (b.counter ≡ 255 → ⊥) ∷ [])) (is_roomy b) (roomy_is b) raising_answers)

  pub draw_book_refusals : (n : ℕ) → (number_of (draw_outcome b d) ≡ n) ↔ Answers (draw_book_checks b d) n
  draw_book_refusals = exactly (draw_book_checks b d) (number_of (draw_outcome b d)) draw_answers
