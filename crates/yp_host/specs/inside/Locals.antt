-- Words beside those of specs/Locals.antt, which the contract of the program doesn't reach.
use Rattle.yp_io.specs.declared.texts.Texts as texts
use Rattle.yp_io.specs.declared.clock.Clock as clock
use Rattle.yp_io.specs.declared.dial.Dial as dial
use Rattle.yp_host.specs.declared.desk.Desk.{Desk}
use Rattle.yp_host.specs.Locals.{Telling, telling_of}

-- the same, by the bounds of its texts, its clock and its dial
abbrev pub telling_by : {A T C X Y : Type 0} → texts.Ghosts T → clock.Ghosts C → dial.Ghosts A X Y
    → Telling (Desk A T C)
telling_by texts clock dial = telling_of texts clock dial.past dial.letters dial.faults
