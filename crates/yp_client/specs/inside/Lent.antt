-- What a client is once what it lent of its buffer is given back.
use Rattle.std.specs.Borrow.{Fml, RattleType, MutBor}
use Rattle.std.specs.Io.BufRead.{Rests}
use Rattle.yp_io.specs.declared.stream.Source as source
use Rattle.yp_io.specs.declared.stream.Sink as sink
use Rattle.yp_client.specs.contracts.client.Client.{the_row}
use Rattle.yp_client.specs.States.{ClientModel}

-- P holds of it then
abbrev pub ClientRests : (S K : RattleType) (ins : source.Ghosts S.Denot) (outs : sink.Ghosts K.Denot)
    → MutBor (ClientModel S.Denot K.Denot) → (ClientModel S.Denot K.Denot → Type 0) → Fml
ClientRests S K ins outs client P = Rests (the_row S K ins outs) client P
