use Rattle.yp_command_serve.proofs.serve.resources.host_loaded.Given as goal

-- the book that was just opened, and the moment that the clock tells
abbrev pub ghosts-host_shown-J-Naming : goal.ghosts-host_shown-J-Naming
ghosts-host_shown-J-Naming g a = record { book = a.starting.opened }

abbrev pub ghosts-host_shown-M-ClockMoment : goal.ghosts-host_shown-M-ClockMoment
ghosts-host_shown-M-ClockMoment g a = record { moment = g.C.Clock.moment a.resources.desk.clock }
