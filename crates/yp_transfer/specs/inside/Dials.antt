-- What a dial tells, by its bound.
use Rattle.yp_io.specs.declared.dial.Dial as dial
use Rattle.yp_io.specs.Dials.{DialTells, dial_tells}

abbrev pub dial_by : {A X Y : Type 0} → dial.Ghosts A X Y → A → DialTells
dial_by ghosts = dial_tells ghosts.past ghosts.letters ghosts.faults
