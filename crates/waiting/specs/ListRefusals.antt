-- The refusals of waiting lists.
use Rattle.rows.specs.Refusals.{Refusal, plain}
use Rattle.waiting.specs.declared.refusal.ListError.{ListError}
use Rattle.waiting.specs.declared.refusal.ListError.TheVariants.{Capacity, Class}
use Rattle.waiting.specs.declared.refusal.PutError.{PutError}
use Rattle.waiting.specs.declared.refusal.PutError.TheVariants.{Number}

-- 19: the capacity is outside 1 to 512. 20: a class is outside 1 to 7.
abbrev pub list_says : ListError → Refusal
list_says Capacity = plain 19
list_says Class = plain 20

-- 21: the number is not below the capacity.
abbrev pub put_says : PutError → Refusal
put_says Number = plain 21
