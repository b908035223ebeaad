use Rattle.std.proofs.Common.{T, sym, refl, ap, ◌∙◌, subst}
use lib.Ieee.{binary64, fits, of_bits}
use lib.Ieee.Bits.{of_bits-to_bits}
use Rattle.datatype.proofs.excel_date_time.ExcelDateTime.new.Goals as goal

-- the bits that are written for a value read back as the value
pub returns : goal.returns
returns c =
    let held : T (fits binary64 c.args.value) = subst T (sym c.well_formed.0.1) tt in
    record {
      value = ap (of_bits binary64) c.f64_to_bits_with_nan.ensures ∙ of_bits-to_bits binary64 c.args.value held;
      type = refl;
      system = refl;
    }
