-- Texts: what a stored one means, and how one is made.
use Rattle.std.specs.Prelude.{◌≡◌, ℕ, ◌-◌, ◌<◌, min, cond, List, ◌++◌, length, take, replicate, Ok, Err, Result, nat_lt}
use Rattle.values.specs.Rows.{Row}
use Rattle.values.specs.declared.faults.Fault.{Fault}
use Rattle.values.specs.declared.faults.Fault.TheVariants.{TextTooLong}
use Rattle.values.specs.declared.texts.Text.{Text}

-- how many bytes a text has at most
abbrev pub most_bytes : ℕ
most_bytes = 64

-- the bytes: a stored length above 64 is read as 64
unfoldable pub text_bytes : Text → Row
text_bytes t = take (min t.length most_bytes) t.bytes

-- MAKING. A text of the bytes, as it is stored
abbrev pub stored_text : List ℕ → Text
stored_text bs = record { length = length bs; bytes = bs ++ replicate (most_bytes - length bs) 0 }

-- THE ANSWER of making a text from bytes
abbrev pub made_text : List ℕ → Result Text Fault
made_text bs = cond (nat_lt most_bytes (length bs)) (Err TextTooLong) (Ok (stored_text bs))

-- a text that is made has exactly the bytes given, and only too many bytes are refused
abbrev pub MakesText : List ℕ → Result Text Fault → Type 0
MakesText bs (Ok t) = text_bytes t ≡ bs
MakesText bs (Err f) = (f ≡ TextTooLong) × (most_bytes < length bs)
