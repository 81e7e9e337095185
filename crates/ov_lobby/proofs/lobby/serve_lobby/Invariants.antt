use Rattle.ov_lobby.proofs.lobby.serve_lobby.Given as goal

abbrev pub ghosts-serve_as : goal.ghosts-serve_as
ghosts-serve_as g a = record { name = a.blank.name; parts = a.blank.parts }
