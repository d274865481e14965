-- The coefficients of each kind, for a sense resistor of 1 mΩ, and which of them a quantity has.
use Rattle.std.specs.Prelude.{ℕ, ℤ, pos, negsuc}
use Rattle.direct.specs.declared.cards.Kind.{Kind}
use Rattle.direct.specs.declared.cards.Kind.TheVariants.{Lm25066, Lm5064, Lm5056}
use Rattle.direct.specs.declared.cards.CurrentLimit.{CurrentLimit}
use Rattle.direct.specs.declared.cards.CurrentLimit.TheVariants.{Vdd, Ground}
use Rattle.direct.specs.declared.quantities.Quantity.{Quantity}
use Rattle.direct.specs.declared.quantities.Quantity.TheVariants.{Vin, Vout, Vaux, Iin, Pin, Temperature}
use Rattle.direct.specs.declared.tables.Coefficients.{Coefficients}
use Rattle.direct.specs.declared.tables.Rows.{Rows}

-- one record of coefficients: m, b and R (a number -n is written negsuc (n - 1))
abbrev pub coefficients_record : ℕ → ℤ → ℤ → Coefficients
coefficients_record m' b' r' = record { m = m'; b = b'; r = r' }

-- the records of a kind
unfoldable pub rows_of : Kind → Rows
rows_of Lm25066 =
    record {
      vin = coefficients_record 22070 (negsuc 1799) (negsuc 1);
      vout = coefficients_record 22070 (negsuc 1799) (negsuc 1);
      vaux = coefficients_record 3546 (negsuc 2) (pos 0);
      iin_vdd = coefficients_record 6854 (negsuc 3099) (negsuc 1);
      iin_ground = coefficients_record 13661 (negsuc 5199) (negsuc 1);
      pin_vdd = coefficients_record 369 (negsuc 1899) (negsuc 1);
      pin_ground = coefficients_record 736 (negsuc 3299) (negsuc 1);
      temperature = coefficients_record 16000 (pos 0) (negsuc 2);
    }
rows_of Lm5064 =
    record {
      vin = coefficients_record 4611 (negsuc 641) (negsuc 1);
      vout = coefficients_record 4621 (pos 423) (negsuc 1);
      vaux = coefficients_record 13808 (pos 0) (negsuc 0);
      iin_vdd = coefficients_record 10742 (pos 1552) (negsuc 1);
      iin_ground = coefficients_record 5456 (pos 2118) (negsuc 1);
      pin_vdd = coefficients_record 1204 (pos 8524) (negsuc 2);
      pin_ground = coefficients_record 612 (pos 11202) (negsuc 2);
      temperature = coefficients_record 16000 (pos 0) (negsuc 2);
    }
rows_of Lm5056 =
    record {
      vin = coefficients_record 4612 (negsuc 565) (negsuc 1);
      vout = coefficients_record 4607 (pos 179) (negsuc 1);
      vaux = coefficients_record 13801 (pos 11) (negsuc 0);
      iin_vdd = coefficients_record 14985 (pos 4271) (negsuc 1);
      iin_ground = coefficients_record 7471 (pos 1949) (negsuc 1);
      pin_vdd = coefficients_record 1684 (pos 22344) (negsuc 2);
      pin_ground = coefficients_record 839 (pos 9822) (negsuc 2);
      temperature = coefficients_record 16000 (pos 0) (negsuc 2);
    }

-- the record of a quantity; only IIN and PIN depend on the CL setting
abbrev pub row_of : Rows → Quantity → CurrentLimit → Coefficients
row_of r Vin c = r.vin
row_of r Vout c = r.vout
row_of r Vaux c = r.vaux
row_of r Iin Vdd = r.iin_vdd
row_of r Iin Ground = r.iin_ground
row_of r Pin Vdd = r.pin_vdd
row_of r Pin Ground = r.pin_ground
row_of r Temperature c = r.temperature

-- the coefficients of a quantity on a card of that kind and CL setting
abbrev pub coefficients_of : Kind → Quantity → CurrentLimit → Coefficients
coefficients_of k q c = row_of (rows_of k) q c
