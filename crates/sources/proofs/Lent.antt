-- The calls of two lent lists of melds that differ in nothing but their sources are answered alike in each game. Assumes nothing.
use mathlib.Core.Path.{◌≡◌, refl, sym, ap, ◌∙◌}
use mathlib.Core.List.{List, [], ◌∷◌, map}
use Prim.Native.Nat.{ℕ}
use lib.Dec.{T}
use lib.ListN.{length, length-map, take}
use Rattle.lists.specs.Fold.{all}
use Rattle.lists.proofs.Members.{take_map}
use Rattle.rules.specs.Rules.{Game}
use Rattle.meld.specs.declared.Meld.{Meld}
use Rattle.meld.specs.Meld.{is_call, but_source}
use Rattle.checks.specs.Checks.{called, is_call_in}
use Rattle.lent.specs.Lent.{calls_of}
use Rattle.sources.specs.Sources.{SameButSources, AlikeIn, Alike}
use Rattle.sources.proofs.Alike.{sources_alike_in, sources_alike}

-- the calls of a lent list are the first four; more than four are refused
first_four : (ms : List Meld) → called (calls_of ms) ≡ take 4 ms
first_four [] = refl
first_four (a ∷ []) = refl
first_four (a ∷ b ∷ []) = refl
first_four (a ∷ b ∷ c ∷ []) = refl
first_four (a ∷ b ∷ c ∷ d ∷ []) = refl
first_four (a ∷ b ∷ c ∷ d ∷ e ∷ ms) = refl

but_called : (ms : List Meld) → map but_source (called (calls_of ms)) ≡ take 4 (map but_source ms)
but_called ms = ap (map but_source) (first_four ms) ∙ sym (take_map but_source 4 ms)

pub lent_same : (ks js : List Meld) → map but_source js ≡ map but_source ks → SameButSources (calls_of ks) (calls_of js)
lent_same ks js e =
    record {
      many = sym (length-map js but_source) ∙ ap length e ∙ length-map ks but_source;
      calls = but_called js ∙ ap (take 4) e ∙ sym (but_called ks);
    }

-- the theorem at the arguments of the exported operations
pub sources_lent_in :
    (g : Game) (cs : List ℕ) (ks js : List Meld) → map but_source js ≡ map but_source ks → T (all (is_call_in g) (called (calls_of ks)))
    → T (all (is_call_in g) (called (calls_of js))) → AlikeIn g cs (calls_of ks) (calls_of js)
sources_lent_in g cs ks js e calls calls' = sources_alike_in g cs (calls_of ks) (calls_of js) (lent_same ks js e) calls calls'

-- with four players
pub sources_lent :
    (cs : List ℕ) (ks js : List Meld) → map but_source js ≡ map but_source ks → T (all is_call (called (calls_of ks)))
    → T (all is_call (called (calls_of js))) → Alike cs (calls_of ks) (calls_of js)
sources_lent cs ks js e calls calls' = sources_alike cs (calls_of ks) (calls_of js) (lent_same ks js e) calls calls'
