-- All live tuples of a rule on a sheet, as a list that can be computed.
use Rattle.std.proofs.Common.{◌≡◌, ℕ, zero, suc, ◌^◌, ◌<◌, true, List, [], ◌∷◌, map, length, get_or, Decides, filter, sym, refl, ap, ◌∙◌, subst, inl, inr, ⊎_elim, arith}
use lib.Bits.{bit_or}
use Rattle.std.specs.List.{flat_map}
use Rattle.std.proofs.lemmas.Bool.{or_cases, or_left, or_right, eqb-true, eq-eqb, both_ways}
use Rattle.std.proofs.lemmas.Bool.Decides.{Decides-like}
use Rattle.rows.specs.Choices.{choices, stands, members}
use Rattle.rows.proofs.Masks.{stands_zero, stands_or, stands_bit}
use Rattle.banks.specs.Rules.{Sheet, Tuple, Rule, row, arity, Live, SupportAt}
use Rattle.cases.proofs.Members.{In, in_map, map_in, in_joined, joined_in, in_kept, kept_in, in_members, members_in}

-- the tuples with a choice of each list, in order
abbrev pub tuples : List (List ℕ) → List Tuple
tuples [] = [] ∷ []
tuples (vs ∷ rest) = flat_map (λ v. map (λ t. v ∷ t) (tuples rest)) vs

-- those of standing choices in some rows
abbrev pub standing : Sheet → List ℕ → List Tuple
standing s rows = tuples (map (λ r. members (row s r)) rows)

-- each choice of a tuple stands in the row of its place
abbrev Standing : Sheet → List ℕ → Tuple → Type 0
Standing s rows t = (length t ≡ length rows) × ((p : ℕ) → p < length rows → stands (row s (get_or rows p 0)) (get_or t p 0) ≡ true)

abbrev pub Small : Sheet → Type 0
Small s = (r : ℕ) → row s r < 2 ^ choices

pub in_standing : (s : Sheet) → Small s → (rows : List ℕ) (t : Tuple) → Standing s rows t → In t (standing s rows)
in_standing s small [] [] h = inl refl
in_standing s small [] (v ∷ t) h = absurd (omega (arith, h.0))
in_standing s small (r ∷ rows) [] h = absurd (omega (arith, h.0))
in_standing s small (r ∷ rows) (v ∷ t) h =
    in_joined (λ u. map (λ x. u ∷ x) (standing s rows)) v (v ∷ t) (members (row s r)) (in_members (row s r) v (small r) (h.1 0 (omega arith)))
    (in_map (λ x. v ∷ x) t (standing s rows) (in_standing s small rows t (omega (arith, h.0), λ p k. h.1 (suc p) (omega arith))))

pub standing_in : (s : Sheet) (rows : List ℕ) (t : Tuple) → In t (standing s rows) → Standing s rows t
standing_in s [] t i = ⊎_elim (λ e. (ap length e, λ p k. absurd (omega arith))) absurd i
standing_in s (r ∷ rows) t i =
    let j = joined_in (λ u. map (λ x. u ∷ x) (standing s rows)) t (members (row s r)) i in
    let m = map_in (λ x. j.0 ∷ x) t (standing s rows) j.2 in
    let rest = standing_in s rows m.0 m.1 in
    subst (Standing s (r ∷ rows)) (sym m.2) (ap suc rest.0, each j.0 m.0 (members_in (row s r) j.0 j.1) rest.1)
  where
    each : (v : ℕ) (t : Tuple) → stands (row s r) v ≡ true → ((p : ℕ) → p < length rows → stands (row s (get_or rows p 0)) (get_or t p 0) ≡ true)
        → (p : ℕ) → p < suc (length rows) → stands (row s (get_or (r ∷ rows) p 0)) (get_or (v ∷ t) p 0) ≡ true
    each v t h f zero k = h
    each v t h f (suc p) k = f p (omega arith)

-- the live tuples
abbrev pub live_tuples : Sheet → Rule → List Tuple
live_tuples s R = filter R.permits (standing s R.names)

pub live_in : (s : Sheet) (R : Rule) (t : Tuple) → Small s → Live s R t → In t (live_tuples s R)
live_in s R t small l = in_kept R.permits t (standing s R.names) (in_standing s small R.names t (l.whole, l.standing)) l.permitted

pub in_live : (s : Sheet) (R : Rule) (t : Tuple) → In t (live_tuples s R) → Live s R t
in_live s R t i =
    let k = kept_in R.permits t (standing s R.names) i in
    let st = standing_in s R.names t k.0 in
    record { whole = st.0; permitted = k.1; standing = st.1 }

-- the choices that some tuples have at a place
abbrev pub at_place : ℕ → List Tuple → ℕ
at_place p [] = 0
at_place p (t ∷ ts) = bit_or (2 ^ get_or t p 0) (at_place p ts)

pub at_place_decides : (p v : ℕ) (ts : List Tuple) → Decides (stands (at_place p ts) v) ((t : Tuple) × In t ts × (get_or t p 0 ≡ v))
at_place_decides p v [] = ((λ s. absurd (both_ways (stands 0 v) (stands_zero v) s)), (λ m. absurd m.1))
at_place_decides p v (t ∷ ts) = (there (at_place_decides p v ts).0, back (at_place_decides p v ts).1)
  where
    there : (stands (at_place p ts) v ≡ true → (u : Tuple) × In u ts × (get_or u p 0 ≡ v)) → stands (at_place p (t ∷ ts)) v ≡ true → (u : Tuple) × In u (t ∷ ts) × (get_or u p 0 ≡ v)
    there rest s =
        ⊎_elim (λ e. (t, inl refl, sym (eqb-true v (get_or t p 0) (sym (stands_bit (get_or t p 0) v) ∙ e)))) (λ e. let m = rest e in (m.0, inr m.1, m.2))
        (or_cases (stands (2 ^ get_or t p 0) v) (stands (at_place p ts) v) (sym (stands_or (2 ^ get_or t p 0) (at_place p ts) v) ∙ s))

    back : ((u : Tuple) × In u ts × (get_or u p 0 ≡ v) → stands (at_place p ts) v ≡ true) → (u : Tuple) × In u (t ∷ ts) × (get_or u p 0 ≡ v) → stands (at_place p (t ∷ ts)) v ≡ true
    back rest m =
        stands_or (2 ^ get_or t p 0) (at_place p ts) v
        ∙ ⊎_elim
        (λ e. or_left (stands (2 ^ get_or t p 0) v) (stands (at_place p ts) v) (stands_bit (get_or t p 0) v ∙ eq-eqb v (get_or t p 0) (sym m.2 ∙ ap (λ u. get_or u p 0) e)))
        (λ i. or_right (stands (2 ^ get_or t p 0) v) (stands (at_place p ts) v) (rest (m.0, i, m.2)))
        m.1

-- those of the live tuples have support there
pub support_decides : (s : Sheet) (R : Rule) → Small s → (p v : ℕ) → p < arity R → Decides (stands (at_place p (live_tuples s R)) v) (SupportAt s R p v)
support_decides s R small p v h =
    Decides-like (stands (at_place p (live_tuples s R)) v)
    (λ m. record { placed = h; tuple = m.0; live = in_live s R m.0 m.1; there = m.2 })
    (λ a. (a.tuple, live_in s R a.tuple small a.live, a.there))
    (at_place_decides p v (live_tuples s R))
