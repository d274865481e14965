-- What a line could have gone on with, in words.
use Rattle.std.specs.Prelude.{ℕ, List, codes}
use Rattle.sheet_line.specs.declared.expected.Expected as e
use Rattle.sheet_line.specs.declared.expected.Expected.TheVariants.{Form, CardBefore, Blank, HexDigit, Kind, CurrentLimit, LimitName, Digit, DigitOrMinus, DigitPointOrEnd, PointOrEnd, DigitOrEnd, End}

-- what was expected, in words
abbrev pub expected_text : e.Expected → List ℕ
expected_text Form = codes "a card line, a limit line, # or an empty line"
expected_text CardBefore = codes "a card line before this limit"
expected_text Blank = codes "a blank"
expected_text HexDigit = codes "an upper-case hexadecimal digit"
expected_text Kind = codes "LM25066, LM5064 or LM5056"
expected_text CurrentLimit = codes "VDD, GND or VEE"
expected_text LimitName = codes "VOUT_UV, VIN_OV, VIN_UV, IIN_OC, PIN_OP, OT_WARN or OT_FAULT"
expected_text Digit = codes "a digit"
expected_text DigitOrMinus = codes "a digit or -"
expected_text DigitPointOrEnd = codes "a digit, a point or the end of the line"
expected_text PointOrEnd = codes "a point or the end of the line"
expected_text DigitOrEnd = codes "a digit or the end of the line"
expected_text End = codes "the end of the line"
