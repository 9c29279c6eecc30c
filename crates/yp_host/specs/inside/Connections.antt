-- A connection that is made of a wire and a stock.
use Rattle.yp_answer.specs.session.Wires.{Wire}
use Rattle.yp_host.specs.declared.connection.ConnectionResources.{ConnectionResources}
use Rattle.yp_host.specs.declared.desk.Desk.{Desk}
use Rattle.yp_host.specs.Connections.{Connection}

abbrev pub connection_of : {D A T C : Type 0} → Wire → ConnectionResources D A T C → Connection D (Desk A T C)
connection_of wire resources = record { wire = wire; disks = resources.disks.items; desk = resources.desk }
