-- The exit statuses of files.
use Rattle.std.specs.Prelude.{◌≡◌, ◌⊎◌, ℕ}
use Rattle.files.specs.declared.fault.FileFault.{FileFault}
use Rattle.files.specs.declared.fault.FileFault.TheVariants as file

-- 1 files and output, 6 memory
abbrev pub file_status : FileFault → ℕ
file_status (file.CannotRead path) = 1
file_status file.CannotWrite = 1
file_status file.Memory = 6

-- a fault of files, of output or of memory
abbrev pub IsFileStatus : ℕ → Type 0
IsFileStatus n = (n ≡ 1) ⊎ (n ≡ 6)
