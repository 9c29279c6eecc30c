-- A reply's bytes, or silence.
use Rattle.std.specs.Prelude.{◌≡◌, ℕ, List}
use Rattle.std.specs.Prelude.{Option, Some, None, Result, Ok, Err}
use Rattle.yp_xdr.specs.declared.fault.XdrFault.{XdrFault}
use Rattle.yp_xdr.specs.Kind.{Kind, Value}
use Rattle.yp_answer.specs.Reply.{Response, arguments_of, Silence, Bytes}

-- a reply of these bytes, or no reply
abbrev pub bytes_or_silence : Option (List ℕ) → Response
bytes_or_silence (Some bytes) = Bytes bytes
bytes_or_silence None = Silence

-- A reader of arguments of the kind answers these, seen by view, or their fault.
abbrev pub ReadsArguments : {M : Type 0} (kind : Kind) → (M → Value kind) → List ℕ → Result M XdrFault → Type 0
ReadsArguments kind view bytes (Ok arguments) = arguments_of kind bytes ≡ Ok (view arguments)
ReadsArguments kind view bytes (Err fault) = arguments_of kind bytes ≡ Err fault
