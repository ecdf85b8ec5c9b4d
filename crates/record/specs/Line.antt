-- The lines that are printed.
use Rattle.std.specs.Prelude.{List, [], ◌∷◌, ◌++◌, ℕ}
use Rattle.tree.specs.Refusal.{code_of}
use Rattle.record.specs.Text.{decimal}
use Rattle.record.specs.declared.Setting.{Setting}
use Rattle.record.specs.declared.Setting.TheVariants.{Plain, Back}
use Rattle.record.specs.declared.Outcome.{Outcome}
use Rattle.record.specs.declared.Outcome.TheVariants.{Kept, Struck, Refused}
use Rattle.record.specs.declared.Totals.{Totals}

-- a space
abbrev pub space : List ℕ
space = 32 ∷ []

-- the end of a line
abbrev pub line_end : List ℕ
line_end = 10 ∷ []

-- `kept ` at the beginning of a line
abbrev pub says_first : List ℕ
says_first = 107 ∷ 101 ∷ 112 ∷ 116 ∷ 32 ∷ []

-- ` kept `
abbrev pub says_kept : List ℕ
says_kept = 32 ∷ 107 ∷ 101 ∷ 112 ∷ 116 ∷ 32 ∷ []

-- ` struck `
abbrev pub says_struck : List ℕ
says_struck = 32 ∷ 115 ∷ 116 ∷ 114 ∷ 117 ∷ 99 ∷ 107 ∷ 32 ∷ []

-- ` refused `
abbrev pub says_refused : List ℕ
says_refused = 32 ∷ 114 ∷ 101 ∷ 102 ∷ 117 ∷ 115 ∷ 101 ∷ 100 ∷ 32 ∷ []

-- ` removed `
abbrev pub says_removed : List ℕ
says_removed = 32 ∷ 114 ∷ 101 ∷ 109 ∷ 111 ∷ 118 ∷ 101 ∷ 100 ∷ 32 ∷ []

-- some text and a number after it
abbrev pub named : (text : List ℕ) (number : ℕ) → List ℕ
named t n = t ++ decimal n

-- what a line says after the record's number: `kept` and the used words; `struck`, the covering number and the candidates; `refused` and the code
abbrev pub saying : Outcome → List ℕ
saying (Kept used) = named says_kept used
saying (Struck covering candidates) = named says_struck covering ++ named space candidates
saying (Refused r) = named says_refused (code_of r)

-- the most bytes of that: ` struck `, a number of 32 bits, a space and a number of 64
abbrev pub longest_saying : ℕ
longest_saying = 39

-- the most bytes of a record's line: a number of 16 bits, what is said, the line's end
abbrev pub longest_line : ℕ
longest_line = 45

-- the most bytes of a line of a removal: two numbers of 16 bits, ` removed `, the line's end
abbrev pub longest_removal : ℕ
longest_removal = 20

-- the most bytes of the line of totals: four numbers of 64 bits, `kept `, ` struck `, ` refused `, ` removed `, the line's end
abbrev pub longest_totals : ℕ
longest_totals = 112

-- the most bytes of a row of the tally sheet: a number of 16 bits, two of 64, two spaces, the line's end
abbrev pub longest_tally : ℕ
longest_tally = 48

-- the most bytes of the tally sheet's last line: a number of 64 bits, the line's end
abbrev pub longest_records : ℕ
longest_records = 21

-- the line of a record
unfoldable pub line_of : (number : ℕ) → Outcome → List ℕ
line_of n o = decimal n ++ (saying o ++ line_end)

-- the line of a removal: a number, and the record that takes its clause out
unfoldable pub removal_line : (by number : ℕ) → List ℕ
removal_line n m = decimal m ++ (named says_removed n ++ line_end)

-- those of some numbers
unfoldable pub removal_lines : (by : ℕ) (numbers : List ℕ) → List ℕ
removal_lines n [] = []
removal_lines n (m ∷ ms) = removal_line n m ++ removal_lines n ms

-- all lines of a record: a line for each number that it takes out, and its own
unfoldable pub lines_for : (number : ℕ) (removed : List ℕ) → Outcome → List ℕ
lines_for n ns o = removal_lines n ns ++ line_of n o

-- how many are removed, at the end of the line of totals; only with backward striking
abbrev pub removed_total : Setting → (removed : ℕ) → List ℕ
removed_total Plain m = []
removed_total Back m = named says_removed m

-- the line of totals: how many are kept, were struck and refused, and are removed
unfoldable pub totals_line : Setting → Totals → List ℕ
totals_line s t =
    named says_first t.kept ++ (named says_struck t.struck ++ (named says_refused t.refused ++ (removed_total s t.removed ++ line_end)))

-- a row of the tally sheet: a number, the strikes of its clause, and their candidates
unfoldable pub tally_line : (number strikes candidates : ℕ) → List ℕ
tally_line n s k = decimal n ++ (named space s ++ (named space k ++ line_end))

-- the tally sheet's last line: how many records were read
unfoldable pub records_line : (records : ℕ) → List ℕ
records_line n = decimal n ++ line_end
