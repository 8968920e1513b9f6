-- Paths for which two causes are due, by computing: the one that comes first is told. Assumes nothing.
use Rattle.std.specs.Prelude.{Err, ◌≡◌, refl, [], ◌∷◌}
use Rattle.refusal.specs.declared.Refusal.TheVariants.{InvalidNameByte, UnsafeName}
use Rattle.tree.specs.Units.{units}
use Rattle.tree.specs.Table.{is_plain, is_safe}
use Rattle.wish_list.specs.Paths.{path_verdict}

-- 0x01 `/.`: a name that is not plain, and behind it one that is not safe
pub safe-first : path_verdict [] (0x01 ∷ 0x2F ∷ 0x2E ∷ []) ≡ Err UnsafeName
unfolding path_verdict is_plain is_safe units
safe-first = refl

-- `b`, 0x01: not behind the path before it, and not plain
pub plain-before-order : path_verdict ((0x62 ∷ []) ∷ []) (0x01 ∷ []) ≡ Err InvalidNameByte
unfolding path_verdict is_plain is_safe units
plain-before-order = refl
