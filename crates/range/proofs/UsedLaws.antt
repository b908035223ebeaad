-- Cells without the empty ones, from the front and from the back.
use Rattle.std.proofs.Common.{◌≡◌, ℕ, Bool, true, false, cond, List, [], ◌∷◌, ◌++◌, Some, None, Option, sym, refl, ap, subst, ◌∙◌, append-nil}
use Rattle.std.specs.Fn.{CalledAt}
use Rattle.std.specs.Iterator.{Yields, YieldsThen, YieldsFirstBy, YieldsLastBy, FindsItem}
use Rattle.std.specs.List.{FoldsTo}
use Rattle.std.specs.Option.{IfSome, MatchOption}
use denote.Param.Members.{Mut}
use denote.Ref.{Bor}
use Rattle.range.specs.Used.{used_only}

module _ {C : Type 0} (empty : C → Bool) where
  -- the first of two lists with a cell in front or without it
  with_front : (x : ℕ × ℕ × C) (passed : Bool) (all xs ys : List (ℕ × ℕ × C)) → all ≡ xs ++ ys → cond passed all (x ∷ all) ≡ cond passed xs (x ∷ xs) ++ ys
  with_front x true all xs ys same = same
  with_front x false all xs ys same = ap (λ l. x ∷ l) same

  -- two lists one after the other
  used_append : (xs ys : List (ℕ × ℕ × C)) → used_only empty (xs ++ ys) ≡ used_only empty xs ++ used_only empty ys
  used_append [] ys = refl
  used_append (x ∷ xs) ys = with_front x (empty x.2) (used_only empty (xs ++ ys)) (used_only empty xs) (used_only empty ys) (used_append xs ys)

  -- with a cell in front: without it where it is empty, else with it in front
  pub in_front : (x : ℕ × ℕ × C) (before after : List (ℕ × ℕ × C)) (passed : Bool) → before ≡ x ∷ after → empty x.2 ≡ passed → used_only empty before ≡ cond passed (used_only empty after) (x ∷ used_only empty after)
  in_front x before after passed same is = ap (used_only empty) same ∙ ap (λ b. cond b (used_only empty after) (x ∷ used_only empty after)) is

  -- the same with a cell at the end
  pub behind : (x : ℕ × ℕ × C) (before after : List (ℕ × ℕ × C)) (passed : Bool) → before ≡ after ++ (x ∷ []) → empty x.2 ≡ passed → used_only empty before ≡ used_only empty after ++ cond passed [] (x ∷ [])
  behind x before after passed same is = ap (used_only empty) same ∙ used_append after (x ∷ []) ∙ ap (λ b. used_only empty after ++ cond b [] (x ∷ [])) is

-- a search that passes over what is not wanted, from either end: `took` says how what is left before and after an item differ
module _ {S A B F : Type 0} (steps : S → Option A → S → Type 0) (called : F → A → Bool → F → Type 0) (wanted : S → List B) (took : List B → A → List B → Type 0) (f : F)
    (over : (s t : S) (x : A) (q : F) → steps s (Some x) t → called f x false q → (q ≡ f) × (wanted s ≡ wanted t))
    (hit : (s t : S) (x : A) (q : F) → steps s (Some x) t → called f x true q → took (wanted s) x (wanted t))
    (none : (s t : S) → steps s None t → (wanted s ≡ []) × (wanted t ≡ [])) where
  abbrev pub Found : S → Option A → S → Type 0
  Found s r u = MatchOption r ((wanted s ≡ []) × (wanted u ≡ [])) (λ x. took (wanted s) x (wanted u))

  earlier : (s t u : S) (r : Option A) → wanted s ≡ wanted t → Found t r u → Found s r u
  earlier s t u None same found = (same ∙ found.0, found.1)
  earlier s t u (Some x) same found = subst (λ l. took l x (wanted u)) (sym same) found

  at_last : (t u : S) (r : Option A) (p : F) → p ≡ f → steps t r u → IfSome r (λ x. (h : F) × called p x true h) → Found t r u
  at_last t u None p same step last = none t u step
  at_last t u (Some x) p same step last = hit t u x last.0 step (subst (λ q. called q x true last.0) same last.1)

  search_found : (s t u : S) (xs : List A) (r : Option A) (p e : F) → p ≡ f → Yields steps s xs t → steps t r u → FoldsTo (λ a x q. called a x false q) p xs e → IfSome r (λ x. (h : F) × called e x true h) → Found s r u
  search_found s t u [] r p e same way step calls last =
      subst (λ a. Found a r u) (sym way) (at_last t u r e (sym calls ∙ same) step last)
  search_found s t u (x ∷ xs) r p e same way step calls last =
      let passed = over s way.0 x calls.0 way.1 (subst (λ q. called q x false calls.0) same calls.1) in
      earlier s way.0 u r passed.1 (search_found way.0 t u xs r calls.0 e passed.0 way.2 step calls.2 last)

  pub found_from : (s u : S) (r : Option A) → (xs : List A) × (e : F) × YieldsThen steps s xs r u × FoldsTo (λ a x q. called a x false q) f xs e × IfSome r (λ x. (h : F) × called e x true h) → Found s r u
  found_from s u r ran = search_found s ran.2.0 u ran.0 r f ran.1 refl ran.2.1 ran.2.2 ran.3 ran.4

module _ {S A C F : Type 0} (view : A → ℕ × ℕ × C) (rest : S → List (ℕ × ℕ × C)) (empty : C → Bool) {g : Mut F (Bor A × Unit {0}) Bool} (f : F) where
  -- the first that is not empty
  pub front_found : (s u : S) (r : Option A) → FindsItem (YieldsFirstBy view rest) g s f r u → ((x : A) (q : F) → CalledAt g f x false q → (q ≡ f) × (empty (view x).2 ≡ true)) → ((x : A) (q : F) → CalledAt g f x true q → empty (view x).2 ≡ false) → YieldsFirstBy view (λ s. used_only empty (rest s)) s r u
  front_found s u r ran over hit =
      found_from (YieldsFirstBy view rest) (λ p x b q. CalledAt g p x b q) (λ s. used_only empty (rest s)) (λ before x after. before ≡ view x ∷ after) f
      (λ s t x q step call. let p = over x q call in (p.0, in_front empty (view x) (rest s) (rest t) true step p.1))
      (λ s t x q step call. in_front empty (view x) (rest s) (rest t) false step (hit x q call))
      (λ s t step. (ap (used_only empty) step.0, ap (used_only empty) step.1))
      s u r ran

  -- the last that is not empty
  pub back_found : (s u : S) (r : Option A) → FindsItem (YieldsLastBy view rest) g s f r u → ((x : A) (q : F) → CalledAt g f x false q → (q ≡ f) × (empty (view x).2 ≡ true)) → ((x : A) (q : F) → CalledAt g f x true q → empty (view x).2 ≡ false) → YieldsLastBy view (λ s. used_only empty (rest s)) s r u
  back_found s u r ran over hit =
      found_from (YieldsLastBy view rest) (λ p x b q. CalledAt g p x b q) (λ s. used_only empty (rest s)) (λ before x after. before ≡ after ++ (view x ∷ [])) f
      (λ s t x q step call. let p = over x q call in (p.0, behind empty (view x) (rest s) (rest t) true step p.1 ∙ append-nil (used_only empty (rest t))))
      (λ s t x q step call. behind empty (view x) (rest s) (rest t) false step (hit x q call))
      (λ s t step. (ap (used_only empty) step.0, ap (used_only empty) step.1))
      s u r ran
