-- The names of streams as the system has them.
use Rattle.std.specs.Prelude.{ℕ, List, bytes_eq, codes, if◌then◌else◌}

-- `-` is standard input, and any other name is its own
abbrev pub system_name : List ℕ → List ℕ
system_name name = if bytes_eq name (codes "-") then codes "/dev/stdin" else name
