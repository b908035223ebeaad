-- Questions in order, in one lot or in two.
use Rattle.std.proofs.Common.{◌≡◌, Bool, true, false, cond, List, [], ◌∷◌, ◌++◌, Some, None, Option, sym, refl, ap, ◌∙◌, arith}
use Rattle.questions.specs.Questions.{Refusal, Question, first_no}

no_step : (b : Bool) (o p : Option Refusal) (y x : Refusal) → (Some x ≡ o → Some x ≡ p) → Some x ≡ cond b o (Some y) → Some x ≡ cond b p (Some y)
no_step true o p y x later e = later e
no_step false o p y x later e = e

-- a no among the first questions is the answer, whatever is asked after them
pub no_in_first : (qs rs : List Question) (x : Refusal) → Some x ≡ first_no qs → Some x ≡ first_no (qs ++ rs)
no_in_first [] rs x e = absurd (grind arith)
no_in_first (q ∷ qs) rs x e = no_step q.0 (first_no qs) (first_no (qs ++ rs)) q.1 x (no_in_first qs rs x) e

yes_step : (b : Bool) (o p r : Option Refusal) (y : Refusal) → (None ≡ o → r ≡ p) → None ≡ cond b o (Some y) → r ≡ cond b p (Some y)
yes_step true o p r y later e = later e
yes_step false o p r y later e = absurd (grind arith)

-- with a yes to all of the first questions, those after them give the answer
pub no_in_second : (qs rs : List Question) → None ≡ first_no qs → first_no rs ≡ first_no (qs ++ rs)
no_in_second [] rs e = refl
no_in_second (q ∷ qs) rs e = yes_step q.0 (first_no qs) (first_no (qs ++ rs)) (first_no rs) q.1 (no_in_second qs rs) e

-- a yes to all is a yes to the first and a yes to the others
pub first_yes : (b : Bool) (x : Refusal) (qs : List Question) → None ≡ first_no ((b, x) ∷ qs) → (b ≡ true) × (None ≡ first_no qs)
first_yes true x qs e = (refl, e)
first_yes false x qs e = absurd (grind arith)

-- a yes to all of two lots is a yes to all of each
pub both_lots : (qs rs : List Question) → None ≡ first_no (qs ++ rs) → (None ≡ first_no qs) × (None ≡ first_no rs)
both_lots [] rs e = (refl, e)
both_lots (q ∷ qs) rs e =
    let p = first_yes q.0 q.1 (qs ++ rs) e in
    let later = both_lots qs rs p.1 in
    (later.0 ∙ sym (ap (λ b. cond b (first_no qs) (Some q.1)) p.0), later.1)
