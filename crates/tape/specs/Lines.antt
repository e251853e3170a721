-- The lines of text. Assumes nothing.
use Rattle.std.specs.Prelude.{ℕ, if◌then◌else◌, ◌||◌, List, [], ◌∷◌, ◌++◌, codes, decimal, ◌==◌}
use Rattle.std.specs.List.{flat_map}
use Rattle.std.specs.Fmt.{signed_decimal}
use Rattle.records.specs.Records.{fields_of, kind_of, letter_of}
use Rattle.records.specs.declared.Field.{Field}
use Rattle.records.specs.declared.Field.TheVariants.{Byte, Two, Four, Band, Form}
use Rattle.records.specs.declared.Record.{Record}

abbrev pub newline : List ℕ
newline = 10 ∷ []

-- a blank, and the text behind it
abbrev pub blank : List ℕ → List ℕ
blank text = 32 ∷ text

-- a word, the items as text with a blank before each, and the newline
abbrev pub line_of : {X : Type 0} → (X → List ℕ) → List ℕ → List X → List ℕ
line_of text word items = word ++ (flat_map (λ x. blank (text x)) items ++ newline)

-- a word, and the numbers in decimal
abbrev pub line : List ℕ → List ℕ → List ℕ
line = line_of decimal

abbrev pub refused_line : ℕ → List ℕ
refused_line n = line (codes "refused") (n ∷ [])

abbrev pub entered_line : ℕ → List ℕ
entered_line number = line (codes "in") (number ∷ [])

abbrev pub accepted_line : List ℕ
accepted_line = line (codes "ok") []

abbrev pub traded_line : ℕ → ℕ → ℕ → ℕ → List ℕ
traded_line buy sell price quantity = line (codes "trade") (buy ∷ sell ∷ price ∷ quantity ∷ [])

abbrev pub auction_started_line : ℕ → List ℕ
auction_started_line end = line (codes "auction") (end ∷ [])

-- refusal n at that place of the tape
abbrev pub tape_refused_line : ℕ → ℕ → List ℕ
tape_refused_line n place = codes "tape" ++ (blank (decimal n) ++ line (codes " at") (place ∷ []))

-- a form is shown as its letter where it is A or W
abbrev pub form_shown : ℕ → List ℕ
form_shown n = if n == 65 || n == 87 then n ∷ [] else decimal n

abbrev pub shown : Field → List ℕ
shown (Byte n) = decimal n
shown (Two n) = decimal n
shown (Four n) = decimal n
shown (Band z) = signed_decimal z
shown (Form n) = form_shown n

-- the longest text of a number or of a field: a number of 64 bits has 20 digits
abbrev pub longest_item : ℕ
longest_item = 20

-- the kind letter and the fields
abbrev pub listed_line : Record → List ℕ
listed_line r = line_of shown (letter_of (kind_of r) ∷ []) (fields_of r)
