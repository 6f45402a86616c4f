-- Bytes written as pairs of hexadecimal digits.
use Rattle.std.specs.Prelude.{ℕ, ◌-◌, ◌%◌, ◌||◌, ⊤, Bool, cond, List, length, take, nat_eq, Ok, Err, Result}
use Rattle.std.specs.Int.{is_in_range}
use Rattle.std.specs.List.{list_all}
use Rattle.report.specs.declared.digits.DigitsFault.{DigitsFault}
use Rattle.report.specs.declared.digits.DigitsFault.TheVariants.{NoDigit, HalfByte}

-- is it one of 0 to 9 and a to f?
abbrev pub is_digit : ℕ → Bool
is_digit c = is_in_range 48 57 c || is_in_range 97 102 c

-- all but a digit that stands alone at the end
abbrev pub in_pairs : List ℕ → List ℕ
in_pairs digits = take (length digits - length digits % 2) digits

-- whether they are pairs of digits: what stands in a pair and is no digit is told before a digit that stands alone
abbrev pub digits_said : List ℕ → Result ⊤ DigitsFault
digits_said digits =
    cond (list_all is_digit (in_pairs digits)) (cond (nat_eq (length digits % 2) 0) (Ok tt) (Err HalfByte)) (Err NoDigit)
