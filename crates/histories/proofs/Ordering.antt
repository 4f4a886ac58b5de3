-- Marks in the order in which they were given.
use Rattle.std.proofs.Common.{◌<◌, ◌≤◌, List, [], ◌∷◌, ◌++◌, refl, ◌∙◌}
use Rattle.std.specs.List.{AllByRecursion}
use Rattle.std.proofs.ByRecursion.{All-push}
use Rattle.banks.specs.Rules.{Sheet, Under}
use Rattle.histories.specs.States.{Opened}

pub all_by : {X : Type 0} (P : X → Type 0) → ((x : X) → P x) → (xs : List X) → AllByRecursion P xs
all_by P f [] = tt
all_by P f (x ∷ xs) = (f x, all_by P f xs)

module _ {X : Type 0} (P : X → Type 0) where
  pub all_front : (xs ys : List X) → AllByRecursion P (xs ++ ys) → AllByRecursion P xs
  all_front [] ys a = tt
  all_front (x ∷ xs) ys a = (a.0, all_front xs ys a.1)

  pub all_middle : (xs : List X) (y : X) (ys : List X) → AllByRecursion P (xs ++ y ∷ ys) → P y
  all_middle [] y ys a = a.0
  all_middle (x ∷ xs) y ys a = all_middle xs y ys a.1

pub all_both : {X : Type 0} (P Q : X → Type 0) (xs : List X) → AllByRecursion P xs → AllByRecursion Q xs → AllByRecursion (λ x. P x × Q x) xs
all_both P Q [] a b = tt
all_both P Q (x ∷ xs) a b = ((a.0, b.0), all_both P Q xs a.1 b.1)

pub under_refl : (s : Sheet) → Under s s
under_refl s = record { same = refl; part = λ r v h. h }

pub under_trans : (s t u : Sheet) → Under s t → Under t u → Under s u
under_trans s t u a b = record { same = a.same ∙ b.same; part = λ r v h. b.part r v (a.part r v h) }

-- One mark was given before another: its serial is smaller, and its rows are wider.
pub record Before (x m : Opened) : Type 0 where
  pub serial : x.serial < m.serial
  pub height : x.height ≤ m.height
  pub wider : Under m.rows x.rows

-- Each was given before all that come later in the list.
abbrev pub Ordered : List Opened → Type 0
Ordered [] = Unit {0}
Ordered (x ∷ xs) = AllByRecursion (Before x) xs × Ordered xs

pub ordered_push : (xs : List Opened) (m : Opened) → AllByRecursion (λ x. Before x m) xs → Ordered xs → Ordered (xs ++ m ∷ [])
ordered_push [] m a o = (tt, tt)
ordered_push (x ∷ xs) m a o = (All-push (Before x) xs m o.0 a.0, ordered_push xs m a.1 o.1)

pub ordered_front : (xs ys : List Opened) → Ordered (xs ++ ys) → Ordered xs
ordered_front [] ys o = tt
ordered_front (x ∷ xs) ys o = (all_front (Before x) xs ys o.0, ordered_front xs ys o.1)

pub ordered_middle : (xs : List Opened) (m : Opened) (ys : List Opened) → Ordered (xs ++ m ∷ ys) → AllByRecursion (λ x. Before x m) xs
ordered_middle [] m ys o = tt
ordered_middle (x ∷ xs) m ys o = (all_middle (Before x) xs m ys o.0, ordered_middle xs m ys o.1)
