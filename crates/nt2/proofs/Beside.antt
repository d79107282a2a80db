-- What a call answers and leaves, beside the heads past the table.
use mathlib.Core.List.{List}
use mathlib.Core.Path.{◌≡◌}
use Rattle.heads.specs.declared.Head.{Head}
use Rattle.nt2.specs.Lent.{WithPast}

pub beside : {R : Type 0} {x y : R} {past past' : List Head} → x ≡ y → past ≡ past' → ◌≡◌ {A = WithPast R} (record { result = x; past = past }) (record { result = y; past = past' })
beside e f = cc
