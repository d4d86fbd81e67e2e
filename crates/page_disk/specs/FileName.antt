-- Names of files.
use Rattle.std.specs.Prelude.{ℕ, nat_lt, ◌==◌, ◌&&◌, not, Bool, List, length}
use Rattle.std.specs.List.{list_all}

-- a name in a folder: it is not empty, and has no slash
abbrev pub is_file_name : List ℕ → Bool
is_file_name name = nat_lt 0 (length name) && list_all (λ byte. not (byte == 47)) name
