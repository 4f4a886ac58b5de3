-- Stacks of entries of any one kind, over lent memory.
use Rattle.std.specs.Prelude.{◌≡◌, ℕ, List, [], ◌∷◌, ◌++◌, length, take, Result, ◌==◌, nat_le}
use Rattle.rows.specs.Refusals.{Refusal, plain, fits, first, Answer}
use Rattle.trail.specs.declared.refusal.StackError.{StackError}
use Rattle.trail.specs.declared.refusal.StackError.TheVariants.{Full, Empty}
use Rattle.trail.specs.declared.stack.Stack.{Stack}

-- 10: a full stack is pushed, or an empty one popped.
abbrev pub stack_says : StackError → Refusal
stack_says Full = plain 10
stack_says Empty = plain 10

-- The entries of some memory that lie below a top.
abbrev pub contents : {T : Type 0} → List T → ℕ → List T
contents slots top = take top slots

-- What a stack holds, bottom to top.
abbrev pub held : {T : Type 0} → Stack T → List T
held s = contents s.slots.now s.top

-- Every entry of a stack's memory is as it was, those above its top included.
abbrev pub Left : {T : Type 0} → Stack T → Stack T → Type 0
Left s t = (t.slots.now ≡ s.slots.now) × (t.top ≡ s.top)

-- A stack holds what it held, and then some entries more.
abbrev pub Grows : {T : Type 0} → List T → Stack T → Stack T → Type 0
Grows new s t = (length t.slots.now ≡ length s.slots.now) × (held t ≡ held s ++ new)

-- A push of x, by the stack before and after it. Refused, every entry is as it was.
abbrev pub PushAnswer : {T : Type 0} → Stack T → Stack T → T → Result (Unit {0}) StackError → Type 0
PushAnswer s t x =
    Answer stack_says (first (fits (nat_le (length s.slots.now) s.top) (plain 10) ∷ [])) (Left s t) (λ _. Grows (x ∷ []) s t)

-- A pop.
abbrev pub PopAnswer : {T : Type 0} → Stack T → Stack T → Result T StackError → Type 0
PopAnswer s t =
    Answer stack_says (first (fits (s.top == 0) (plain 10) ∷ [])) (Left s t)
    (λ x. (length t.slots.now ≡ length s.slots.now) × (held s ≡ held t ++ x ∷ []))
