-- Bytes cut into lines: what one line more comes to.
use Rattle.std.proofs.Common.{◌≡◌, ℕ, suc, ◌+◌, ◌/◌, ◌<◌, List, [], ◌∷◌, ◌++◌, length, ap, ◌∙◌, ap₂, add-one}
use native.Mathlib.Nat.{div-eq_of_lt, add-div_left}
use Rattle.std.proofs.lemmas.List.{take_at, drop_at, length-append}
use Rattle.tables.specs.Tables.{cut}

-- all whole lines of a bytes
abbrev pub all_lines : ℕ → List ℕ → List (List ℕ)
all_lines a bytes = cut a (length bytes / a) bytes

pub no_line : (a : ℕ) (bytes : List ℕ) → length bytes < a → all_lines a bytes ≡ []
no_line a bytes h = ap (λ n. cut a n bytes) (div-eq_of_lt h)

pub first_line : (a : ℕ) (bytes line rest : List ℕ) → 0 < a → bytes ≡ line ++ rest → length line ≡ a → all_lines a bytes ≡ line ∷ all_lines a rest
first_line a bytes line rest pos e l =
    ap (all_lines a) e ∙ ap (λ n. cut a n (line ++ rest)) count ∙ ap₂ (λ x y. x ∷ cut a (length rest / a) y) (take_at line rest a l) (drop_at line rest a l)
  where
    count : length (line ++ rest) / a ≡ suc (length rest / a)
    count = ap (λ n. n / a) (length-append line rest ∙ ap (λ n. n + length rest) l) ∙ add-div_left (length rest) pos ∙ add-one (length rest / a)
