-- The limit registers: command code and quantity of each.
use Rattle.std.specs.Prelude.{ℕ}
use Rattle.direct.specs.declared.quantities.Quantity.{Quantity}
use Rattle.direct.specs.declared.quantities.Quantity.TheVariants.{Vin, Vout, Iin, Pin, Temperature}
use Rattle.direct.specs.declared.quantities.LimitRegister.{LimitRegister}
use Rattle.direct.specs.declared.quantities.LimitRegister.TheVariants.{VoutUv, VinOv, VinUv, IinOc, PinOp, OtWarn, OtFault}

-- the command code that reads and writes the register
abbrev pub register_code : LimitRegister → ℕ
register_code VoutUv = 0x43
register_code VinOv = 0x57
register_code VinUv = 0x58
register_code IinOc = 0xD3
register_code PinOp = 0xD4
register_code OtWarn = 0x51
register_code OtFault = 0x4F

-- the quantity whose limit the register holds
abbrev pub register_quantity : LimitRegister → Quantity
register_quantity VoutUv = Vout
register_quantity VinOv = Vin
register_quantity VinUv = Vin
register_quantity IinOc = Iin
register_quantity PinOp = Pin
register_quantity OtWarn = Temperature
register_quantity OtFault = Temperature
