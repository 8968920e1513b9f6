-- The header of the small master by the places of its fields, written out: by computing. Assumes nothing.
use Rattle.std.specs.Prelude.{◌≡◌, refl}
use Rattle.endian.specs.Bytes.{be32, put}
use Rattle.worked.specs.Image.{master}

pub record Places : Type 0 where
  pub wii : be32 master 0x18 ≡ 0
  pub gamecube : be32 master 0x1C ≡ 0xC2339F3D
  pub executable : be32 master 0x420 ≡ 0
  pub table : be32 master 0x424 ≡ 0x440
  pub table-size : be32 master 0x428 ≡ 0x1A
  pub table-maximum : be32 master 0x42C ≡ 0
  pub user-size : be32 master 0x434 ≡ 0x2000
  pub disc-size : be32 master 0x438 ≡ 0

pub places : Places
unfolding master put be32
places = record { wii = refl; gamecube = refl; executable = refl; table = refl; table-size = refl; table-maximum = refl; user-size = refl; disc-size = refl }
