-- Where a fault is.
use Rattle.std.specs.Prelude.{ℕ}
use Rattle.yp_xdr.specs.declared.fault.XdrFault.{XdrFault}
use Rattle.yp_xdr.specs.declared.fault.XdrFault.TheVariants.{Short, TooLong, Pad, BadBool, BadEnum}

-- the place of the item that is refused
abbrev pub fault_place : XdrFault → ℕ
fault_place (Short at) = at
fault_place (TooLong at len) = at
fault_place (Pad at) = at
fault_place (BadBool at) = at
fault_place (BadEnum at) = at
