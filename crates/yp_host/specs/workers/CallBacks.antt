-- Call backs.
use Rattle.std.specs.Prelude.{Option, option_map}
use Rattle.yp_version.specs.Versions.{MapVersion}
use Rattle.yp_host.specs.declared.workers.call_backs.CallBack.{CallBack}

-- the version that was shown by the transfer that a call back tells of, where one was
abbrev pub version_in : CallBack → Option MapVersion
version_in call_back = option_map (λ shown. shown.value) call_back.shown
