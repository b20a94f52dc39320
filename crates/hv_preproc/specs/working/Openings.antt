-- What stays of a file that is being read.
use Rattle.std.specs.Prelude.{◌≡◌}
use Rattle.hv_preproc.specs.declared.open_file.OpenFile.{OpenFile}

-- the same file, reached alike and read in the same configurations
pub record IsSameFile (before now : OpenFile) : Type 0 where
  pub name : now.name ≡ before.name
  pub origin : now.origin ≡ before.origin
  pub cond : now.groups.cond ≡ before.groups.cond
