-- Table rules: the rows that a table names, and the lines that say which tuples it permits.
use Rattle.std.specs.Prelude.{ℕ, zero, suc, ◌*◌, Bool, true, false, ◌&&◌, ◌||◌, List, [], ◌∷◌, map, length, take, drop, ◌==◌}
use Rattle.banks.specs.Rules.{Rule, Tuple}
use Rattle.tables.specs.declared.table.Table.{Table}

-- The byte that any choice matches.
abbrev pub star : ℕ
star = 255

-- A choice matches a byte: the byte is this choice, or the star.
abbrev pub takes : ℕ → ℕ → Bool
takes b v = b == star || b == v

-- A tuple matches a line: there is a byte for each of its choices, and each choice matches the byte at its place.
abbrev pub matches : List ℕ → Tuple → Bool
matches [] [] = true
matches [] (v ∷ t) = false
matches (b ∷ line) [] = false
matches (b ∷ line) (v ∷ t) = takes b v && matches line t

-- A tuple matches some line of a list.
abbrev pub some_match : List (List ℕ) → Tuple → Bool
some_match [] t = false
some_match (line ∷ lines) t = matches line t || some_match lines t

-- The rule that names these rows and permits the tuples that match some of these lines.
abbrev pub table_rule : List ℕ → List (List ℕ) → Rule
table_rule rows lines = record { names = rows; permits = some_match lines }

-- The first n lines of a list of bytes, each of a bytes.
abbrev pub cut : ℕ → ℕ → List ℕ → List (List ℕ)
cut a zero bytes = []
cut a (suc n) bytes = take a bytes ∷ cut a n (drop a bytes)

-- How many rows a table names.
abbrev pub places : Table → ℕ
places t = length t.rows.now

-- How many bytes a table has.
abbrev pub size : Table → ℕ
size t = t.lines * places t

-- The bytes of a table: those of the pool from its start on.
abbrev pub bytes_of : List ℕ → Table → List ℕ
bytes_of pool t = take (size t) (drop t.start pool)

-- The lines of a table, each of one byte a place.
abbrev pub lines_of : List ℕ → Table → List (List ℕ)
lines_of pool t = cut (places t) t.lines (bytes_of pool t)

-- What a table means: it names its rows, and permits the tuples that match some line of it.
abbrev pub meaning : List ℕ → Table → Rule
meaning pool t = table_rule t.rows.now (lines_of pool t)

-- What tables over a common pool mean: the rule of each, in their order.
abbrev pub rules_of : List ℕ → List Table → List Rule
rules_of pool ts = map (meaning pool) ts
