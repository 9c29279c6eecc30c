-- What is asked for, as the code has it.
use Rattle.std.specs.Prelude.{false, None}
use Rattle.yp_transfer.specs.declared.requests.FetchRequest.{FetchRequest}
use Rattle.yp_transfer.specs.declared.requests.TransferRequest.{TransferRequest}
use Rattle.yp_transfer.specs.declared.requests.AskedTransfer.{AskedTransfer}
use Rattle.yp_transfer.specs.Fetching.{Wanted, wanted_of}
use Rattle.yp_transfer.specs.Requests as requests

abbrev pub wanted_by : FetchRequest → Wanted
wanted_by request = wanted_of request.domain.now request.map.now request.shown request.force

abbrev pub request_view : TransferRequest → requests.TransferRequest
request_view request = requests.request_of request.map request.source.now request.force request.mark

-- It isn't forced, and has no mark.
abbrev pub asked_view : AskedTransfer → requests.TransferRequest
asked_view asked = requests.request_of asked.map asked.source.now false None
