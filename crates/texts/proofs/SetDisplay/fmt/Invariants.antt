use Rattle.std.proofs.Common.{◌≡◌, ℕ, true, List, ◌++◌, codes}
use Rattle.std.specs.Fmt.{HasWritten, IsPlainFormatter}
use Rattle.rows.specs.Choices.{stands, members}
use Rattle.texts.specs.Texts.{further, listed}
use Rattle.texts.proofs.SetDisplay.fmt.Given as goal

-- what is written, with what is still to be, is the whole
pub record Writing (Wrote : List ℕ → Type 0) (mask rest : ℕ) : Type 0 where
  pub bytes : List ℕ
  pub wrote : Wrote bytes
  pub whole : bytes ++ further (members rest) ≡ codes "{" ++ listed (members mask)
  pub part : (w : ℕ) → stands rest w ≡ true → stands mask w ≡ true

abbrev pub invariant-loop-choice : goal.invariant-loop-choice
invariant-loop-choice g l =
    IsPlainFormatter l.fn.f → Writing (λ bs. HasWritten g.W.Write.write_str_gives l.fn.f bs l.f) l.self.0 l.choice-iterator.rest
