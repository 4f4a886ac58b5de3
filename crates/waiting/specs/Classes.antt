-- Numbers that wait by classes: the lowest class first, and in a class the lowest number.
use Rattle.std.specs.Prelude.{◌≡◌, ℕ, ◌-◌, ◌<◌, Bool, true, not, ◌&&◌, ◌||◌, List, [], ◌∷◌, length, Some, None, Option, MatchOption, ◌==◌, ◌≢◌, nat_le, nat_lt, slice_index, slice_index_or}
use Rattle.rows.specs.Refusals.{Refusal, plain, fits, first}
use Rattle.waiting.specs.Waiting.{Numbers, Empty, Same, But, no_capacity}
use Rattle.rows.specs.Words.{holds}
use Rattle.waiting.specs.Sets.{LowestOf}
use Rattle.waiting.specs.declared.numbers.NumberSet.{NumberSet}

-- How many classes there are: they are the numbers from 1 to this one.
abbrev pub max_class : ℕ
max_class = 7

-- Every class of a list is from 1 to the last.
abbrev pub all_classes : List ℕ → Bool
all_classes [] = true
all_classes (c ∷ cs) = nat_le 1 c && nat_le c max_class && all_classes cs

-- The refusal of a list with these classes, if any: 19 where they are not 1 to 512, and then 20 where one is outside 1 to 7.
abbrev pub classes_refusal : List ℕ → Option Refusal
classes_refusal cs = first (no_capacity (length cs) ∷ fits (not (all_classes cs)) (plain 20) ∷ [])

-- The class of a number; past the end of the list, none, which is 0.
abbrev pub class_of : List ℕ → ℕ → ℕ
class_of cs k = slice_index cs k

-- The number v goes before k: its class is lower, or they are of one class and v is lower.
abbrev pub goes_before : List ℕ → ℕ → ℕ → Bool
goes_before cs v k = nat_lt (class_of cs v) (class_of cs k) || (class_of cs v == class_of cs k && nat_lt v k)

-- v is the next of the numbers that wait: it goes before all others.
pub record Next (cs : List ℕ) (s : Numbers) (v : ℕ) : Type 0 where
  pub waits : s v ≡ true
  pub first : (k : ℕ) → s k ≡ true → (k ≢ v) → goes_before cs v k ≡ true

-- A take, where s waited before and t waits after it.
abbrev pub ClassTaken : List ℕ → Numbers → Numbers → Option ℕ → Type 0
ClassTaken cs s t None = Empty s × Same s t
ClassTaken cs s t (Some v) = Next cs s v × But v s t

-- The list that is made of the classes cs: it is empty, and has these classes, or one number of class 1 where the check refuses them.
abbrev pub MadeClassed : List ℕ → List ℕ → Numbers → Type 0
MadeClassed cs made s = MatchOption (classes_refusal cs) (made ≡ cs) (λ _. made ≡ 1 ∷ []) × Empty s

-- A set that is read past the end of a list of sets: it has no number.
abbrev pub no_set : NumberSet
no_set = []

-- The set of a place has a number. The sets are in the order of their classes.
abbrev pub held_at : List NumberSet → ℕ → Numbers
held_at sets place = holds (slice_index_or sets place no_set)

-- A number waits where the set of its class has it.
abbrev pub waits_in : List ℕ → List NumberSet → Numbers
waits_in cs sets k = held_at sets (class_of cs k - 1) k

-- n is the lowest number of the first set that has any.
pub record LowestOfFirst (sets : List NumberSet) (n : ℕ) : Type 0 where
  pub place : ℕ
  pub earlier : (c : ℕ) → c < place → Empty (held_at sets c)
  pub lowest : LowestOf (held_at sets place) n

-- The lowest number of the first set that has any, or none where no set has any.
abbrev pub FirstAnswer : List NumberSet → Option ℕ → Type 0
FirstAnswer sets None = (place : ℕ) → Empty (held_at sets place)
FirstAnswer sets (Some n) = LowestOfFirst sets n
