-- How sets of choices and answers are written.
use Rattle.std.specs.Prelude.{ℕ, Bool, true, false, List, [], ◌∷◌, ◌++◌, Ok, Err, codes, decimal, Result}
use Rattle.std.specs.List.{flat_map}
use Rattle.rows.specs.Choices.{members}
use Rattle.rows.specs.Printing.{refusal_text}
use Rattle.rows.specs.Refusals.{Refusal}

-- Each number after a comma, in decimal.
abbrev pub further : List ℕ → List ℕ
further [] = []
further (v ∷ vs) = codes "," ++ (decimal v ++ further vs)

-- The numbers of a list in decimal, with a comma between each two.
abbrev pub listed : List ℕ → List ℕ
listed [] = []
listed (v ∷ vs) = decimal v ++ further vs

-- The choices of a mask in rising order, in braces, as {9,10}.
abbrev pub set_text : ℕ → List ℕ
set_text m = codes "{" ++ (listed (members m) ++ codes "}")

-- The sets of some masks, each after a space.
abbrev pub sets_text : List ℕ → List ℕ
sets_text = flat_map (λ m. codes " " ++ set_text m)

-- An answer: accepted, or the refusal.
abbrev pub answer_text : {T E : Type 0} → (E → Refusal) → Result T E → List ℕ
answer_text says (Ok x) = codes "accepted"
answer_text says (Err e) = refusal_text (says e)

-- An answer: its number, or the refusal.
abbrev pub number_text : {E : Type 0} → (E → Refusal) → Result ℕ E → List ℕ
number_text says (Ok n) = decimal n
number_text says (Err e) = refusal_text (says e)

-- Yes or no.
abbrev pub word_text : Bool → List ℕ
word_text true = codes "yes"
word_text false = codes "no"
