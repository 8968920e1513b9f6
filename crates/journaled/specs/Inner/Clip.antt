-- Which clip an edit has. Assumes nothing: this is a definition.
use Rattle.std.specs.Prelude.{ℕ, ◌≡◌, List, []}
use Rattle.edit.specs.Inner.Decides.{clip_of}
use Rattle.journaled.specs.declared.request.Request.{Request}
use Rattle.journaled.specs.declared.request.Request.TheVariants as request

-- the clip is that of a fill, and no other edit has one
abbrev pub ClipIs : Request → List ℕ → Type 0
ClipIs (request.Edit e) clip = (clip_of e ≡ []) × (clip ≡ [])
ClipIs (request.Fill k) clip = Unit {0}
