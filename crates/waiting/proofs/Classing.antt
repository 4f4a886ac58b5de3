-- Lists by classes: the check of the classes, and what a change of one class's set makes of the numbers that wait.
use Rattle.std.proofs.Common.{◌≡◌, ℕ, zero, suc, ◌-◌, ◌<◌, ◌≤◌, Bool, ◌⊎◌, inl, true, false, not, ◌&&◌, ◌||◌, eqb, ltb, leb, List, [], ◌∷◌, ◌+◌, length, get_or, set, is_ok, Some, None, Option, MatchOption, Ok, Err, Result, sym, refl, ap, ◌∙◌, subst, ⊎_elim, arith}
use mathlib.Core.Bool.{and-true, or-false}
use denote.Param.Members.{Mut, Called}
use denote.Ref.{Bor}
use Rattle.std.proofs.lemmas.Option.{none-some, same_Some}
use Rattle.std.specs.Iterator.Runs.{Run, ItemsMapTo, CallKeepsClosure, AllItemsGive, IsFirstToGive}
use Rattle.std.specs.List.{list_all}
use Rattle.std.specs.Option.{option_map, IfSome, IsSomeAnd}
use Rattle.std.proofs.lemmas.List.{get_or-set_same, get_or-set_other, get_or_past, get_or_default}
use Rattle.std.proofs.lemmas.Bool.{cases_lt, cases_eq, eq-eqb, ne_eqb, eqb-true, lt-ltb, leb-true, and_parts, and_from, or_left, or_right, or_cases, not-false, both_ways, cond-true, cond-false, false≢true}
use Rattle.rows.specs.Refusals.{plain, fits, Answer}
use Rattle.rows.proofs.Masks.{stands_zero}
use Rattle.rows.proofs.Refusing.{first_past, first_here, first_none, fits_none}
use Rattle.waiting.specs.ListRefusals.{list_says}
use Rattle.waiting.specs.Waiting.{Empty, With, But, may_have, no_capacity}
use Rattle.rows.specs.Words.{holds}
use Rattle.waiting.specs.Sets.{LowestOf, LowestAnswer}
use Rattle.waiting.specs.Classes.{all_classes, max_class, classes_refusal, class_of, goes_before, Next, no_set, held_at, waits_in, LowestOfFirst, FirstAnswer}
use Rattle.waiting.specs.Owed.{OwnClass, classed_below}
use Rattle.waiting.specs.declared.numbers.NumberSet.{NumberSet}
use Rattle.waiting.specs.declared.refusal.ListError.{ListError}

-- a list of classes is one whose each class is from 1 to the last
pub each_fine : (cs : List ℕ) → list_all (λ c. leb 1 c && leb c max_class) cs ≡ all_classes cs
each_fine [] = refl
each_fine (c ∷ cs) = ap (λ b. leb 1 c && leb c max_class && b) (each_fine cs)

-- what the check comes to
module _ (cs : List ℕ) (size : may_have (length cs) ≡ true) where
  sized : no_capacity (length cs) ≡ None
  sized = cond-false (not (may_have (length cs))) (Some (plain 19)) None (ap not size)

  pub refused_class : all_classes cs ≡ false → classes_refusal cs ≡ Some (plain 20)
  refused_class e =
      first_past (no_capacity (length cs)) _ sized
      ∙ first_here (fits (not (all_classes cs)) (plain 20)) [] (plain 20) (cond-true (not (all_classes cs)) (Some (plain 20)) None (ap not e))

  pub accepted_classes : all_classes cs ≡ true → classes_refusal cs ≡ None
  accepted_classes e =
      first_past (no_capacity (length cs)) _ sized
      ∙ first_past (fits (not (all_classes cs)) (plain 20)) [] (cond-false (not (all_classes cs)) (Some (plain 20)) None (ap not e))

pub sound_classes : (cs : List ℕ) (r : Result (Unit {0}) ListError) → Answer list_says (classes_refusal cs) (Unit {0}) (λ _. Unit {0}) r → is_ok r ≡ true
    → (may_have (length cs) ≡ true) × (all_classes cs ≡ true)
sound_classes cs (Ok u) a e =
    let p = first_none (no_capacity (length cs)) (fits (not (all_classes cs)) (plain 20) ∷ []) a.0 in (
      not-false _ (fits_none (not (may_have (length cs))) (plain 19) p.0),
      not-false _ (fits_none (not (all_classes cs)) (plain 20) (first_none (fits (not (all_classes cs)) (plain 20)) [] p.1).0),
    )
sound_classes cs (Err x) a e = absurd (false≢true e)

-- each class of such a list
pub class_at : (cs : List ℕ) (k : ℕ) → all_classes cs ≡ true → k < length cs → (1 ≤ class_of cs k) × (class_of cs k ≤ max_class)
class_at [] k e h = absurd (omega arith)
class_at (c ∷ cs) zero e h =
    let p = and_parts (leb 1 c && leb c max_class) (all_classes cs) e in
    let q = and_parts (leb 1 c) (leb c max_class) p.0 in
    (leb-true 1 c q.0, leb-true c max_class q.1)
class_at (c ∷ cs) (suc k) e h = class_at cs k (and_parts (leb 1 c && leb c max_class) (all_classes cs) e).1 (omega arith)

pub no_set_empty : Empty (holds no_set)
no_set_empty k = stands_zero _

-- past the last set there is no number
pub none_anywhere : (sets : List NumberSet) → ((place : ℕ) → place < length sets → Empty (held_at sets place)) → (place : ℕ) → Empty (held_at sets place)
none_anywhere sets none place k =
    ⊎_elim (λ h. none place h k) (λ h. ap (λ s. holds s k) (get_or_past sets place no_set h) ∙ no_set_empty k) (cases_lt place (length sets))

some_if : {X : Type 0} (o : Option X) (P : X → Type 0) → IsSomeAnd o P → IfSome o P
some_if (Some x) P h = h
some_if None P h = absurd h

-- what each set answers, looked at in turn until one has a number
module _ {S F : Type 0} {steps : S → Option (Bor NumberSet) → S → Type 0} (g : Mut F (Bor NumberSet × Unit {0}) (Option ℕ)) (f : F) (sets : List NumberSet) (p : Run steps) (items : ItemsMapTo p (λ y. y.now) sets) (keeps : CallKeepsClosure g f) (says : (x : Bor NumberSet) (r : Option ℕ) → Called g f (x, tt) r f → LowestAnswer (holds x.now) r) where
  answers_at : (place : ℕ) (r : Option ℕ) → place < p.len → IfSome (p.at place) (λ x. Called g f (x, tt) r f) → LowestAnswer (held_at sets place) r
  answers_at place r h = go (p.at place) (items.2 place no_set h)
    where
      go : (o : Option (Bor NumberSet)) → option_map (λ y. y.now) o ≡ Some (get_or sets place no_set) → IfSome o (λ x. Called g f (x, tt) r f) → LowestAnswer (held_at sets place) r
      go (Some x) e c = subst (λ (s : NumberSet). LowestAnswer (holds s) r) (same_Some _ _ e) (says x r c)
      go None e c = absurd (none-some _ e)

  pub first_of_run : (r : Option ℕ) → MatchOption r ((p.whole ≡ true) × AllItemsGive p g f None) (λ y. (i : ℕ) × (i < p.len) × (p.len ≡ i + 1) × IsFirstToGive p g f (Some y) None i)
      → FirstAnswer sets r
  first_of_run None h = none_anywhere sets (λ place l. answers_at place None (omega (arith, items.1 h.0)) (h.1 keeps place))
  first_of_run (Some n) h =
      let found = h.3 keeps in
      record {
        place = h.0;
        earlier = λ c l. answers_at c None (omega (arith, h.1)) (some_if (p.at c) _ (found.1 c l));
        lowest = answers_at h.0 (Some n) h.1 (some_if (p.at h.0) _ found.0);
      }

pub none_own : (cs : List ℕ) (sets : List NumberSet) → ((place : ℕ) → Empty (held_at sets place)) → OwnClass cs sets
none_own cs sets none place k e = absurd (both_ways (held_at sets place k) (none place k) e)

-- the lowest number of the first set that has one is next
module _ (cs : List ℕ) (sets : List NumberSet) (own : OwnClass cs sets) where
  lowest_next : (place n : ℕ) → ((c : ℕ) → c < place → Empty (held_at sets c)) → LowestOf (held_at sets place) n → Next cs (waits_in cs sets) n
  lowest_next place n none low = record { waits = ap (λ c. held_at sets c n) place_of ∙ low.here; first = each }
    where
      class : class_of cs n ≡ suc place
      class = own place n low.here

      place_of : class_of cs n - 1 ≡ place
      place_of = omega (arith, class)

      each : (k : ℕ) → waits_in cs sets k ≡ true → (k ≡ n → ⊥) → goes_before cs n k ≡ true
      each k e ne = ⊎_elim earlier later (cases_lt (class_of cs k - 1) place)
        where
          of_class : class_of cs k ≡ suc (class_of cs k - 1)
          of_class = own (class_of cs k - 1) k e

          earlier : class_of cs k - 1 < place → goes_before cs n k ≡ true
          earlier h = absurd (both_ways (waits_in cs sets k) (none (class_of cs k - 1) h k) e)

          later : place ≤ class_of cs k - 1 → goes_before cs n k ≡ true
          later h = ⊎_elim same higher (cases_eq (class_of cs k - 1) place)
            where
              same : class_of cs k - 1 ≡ place → goes_before cs n k ≡ true
              same at = ⊎_elim (λ l. absurd (both_ways (waits_in cs sets k) (ap (λ c. held_at sets c k) at ∙ low.below k l) e))
                  (λ l. or_right (ltb (class_of cs n) (class_of cs k)) _
                  (and_from (eqb (class_of cs n) (class_of cs k)) (ltb n k) (eq-eqb (class_of cs n) (class_of cs k) (omega (arith, class, of_class))) (lt-ltb n k (⊎_elim (λ s. absurd (ne s)) (λ s. omega arith) (cases_eq k n)))))
                  (cases_lt k n)

              higher : (class_of cs k - 1 ≡ place → ⊥) → goes_before cs n k ≡ true
              higher ne' = or_left (ltb (class_of cs n) (class_of cs k)) _ (lt-ltb (class_of cs n) (class_of cs k) (omega (arith, class, of_class)))

  pub next_number : (n : ℕ) → LowestOfFirst sets n → Next cs (waits_in cs sets) n
  next_number n found = lowest_next found.place n found.earlier found.lowest

  -- so it is one of the list, and has a class
  pub next_class : (n : ℕ) → LowestOfFirst sets n → all_classes cs ≡ true → (n < length cs) × (class_of cs n ≡ suc (class_of cs n - 1)) × (class_of cs n ≤ max_class)
  next_class n found fine =
      let class = own (class_of cs n - 1) n (next_number n found).waits in
      let there = classed_below cs n (class_of cs n - 1) class in
      (there, class, (class_at cs n fine there).1)

-- the set of a class p is written, in which n is: P says of each number whether it is there then, and it keeps what is not n
module _ (cs : List ℕ) (sets : List NumberSet) (p : ℕ) (s d : NumberSet) (there : p < length sets) (n : ℕ) (class : class_of cs n ≡ suc p) (P : Bool → Bool → Bool) (keeps : (b : Bool) → P b false ≡ b) (now : (k : ℕ) → holds s k ≡ P (holds (get_or sets p d) k) (eqb k n)) where
  changed_here : (k : ℕ) → held_at (set sets p s) p k ≡ P (held_at sets p k) (eqb k n)
  changed_here k = ap (λ x. holds x k) (get_or-set_same sets p s no_set there) ∙ now k ∙ ap (λ x. P (holds x k) (eqb k n)) (get_or_default sets p d no_set there)

  changed_elsewhere : (c k : ℕ) → (c ≡ p → ⊥) → held_at (set sets p s) c k ≡ held_at sets c k
  changed_elsewhere c k ne = ap (λ x. holds x k) (get_or-set_other sets p c s no_set ne)

  waits_changed : (k : ℕ) → waits_in cs (set sets p s) k ≡ P (waits_in cs sets k) (eqb k n)
  waits_changed k = ⊎_elim here elsewhere (cases_eq (class_of cs k - 1) p)
    where
      here : class_of cs k - 1 ≡ p → waits_in cs (set sets p s) k ≡ P (waits_in cs sets k) (eqb k n)
      here at = ap (λ x. held_at (set sets p s) x k) at ∙ changed_here k ∙ ap (λ x. P (held_at sets x k) (eqb k n)) (sym at)

      elsewhere : (class_of cs k - 1 ≡ p → ⊥) → waits_in cs (set sets p s) k ≡ P (waits_in cs sets k) (eqb k n)
      elsewhere ne =
          changed_elsewhere (class_of cs k - 1) k ne ∙ sym (keeps (waits_in cs sets k))
          ∙ ap (P (waits_in cs sets k)) (sym (ne_eqb k n (λ e. ne (omega (arith, class, ap (class_of cs) e)))))

  own_changed : ((b e : Bool) → P b e ≡ true → (b ≡ true) ⊎ (e ≡ true)) → OwnClass cs sets → OwnClass cs (set sets p s)
  own_changed splits own c k e = ⊎_elim here (λ ne. own c k (sym (changed_elsewhere c k ne) ∙ e)) (cases_eq c p)
    where
      here : c ≡ p → class_of cs k ≡ suc c
      here at =
          ⊎_elim (λ h. own c k (ap (λ x. held_at sets x k) at ∙ h)) (λ h. ap (class_of cs) (eqb-true k n h) ∙ class ∙ ap suc (sym at))
          (splits (held_at sets p k) (eqb k n) (sym (changed_here k) ∙ ap (λ x. held_at (set sets p s) x k) (sym at) ∙ e))

module _ (cs : List ℕ) (sets : List NumberSet) (p : ℕ) (s d : NumberSet) (there : p < length sets) (n : ℕ) (class : class_of cs n ≡ suc p) where
  pub waits_more : With n (holds (get_or sets p d)) (holds s) → With n (waits_in cs sets) (waits_in cs (set sets p s))
  waits_more more = waits_changed cs sets p s d there n class (λ a b. a || b) or-false more

  pub own_more : With n (holds (get_or sets p d)) (holds s) → OwnClass cs sets → OwnClass cs (set sets p s)
  own_more more = own_changed cs sets p s d there n class (λ a b. a || b) or-false more or_cases

  pub waits_less : But n (holds (get_or sets p d)) (holds s) → But n (waits_in cs sets) (waits_in cs (set sets p s))
  waits_less less = waits_changed cs sets p s d there n class (λ a b. a && not b) and-true less

  pub own_less : But n (holds (get_or sets p d)) (holds s) → OwnClass cs sets → OwnClass cs (set sets p s)
  own_less less = own_changed cs sets p s d there n class (λ a b. a && not b) and-true less (λ b e h. inl (and_parts b (not e) h).0)
