-- What is seen of the folders in memory.
use Rattle.stow_io.specs.Files.{Files}
use Rattle.stow_io.specs.Memory.{Calls, held}
use Rattle.stow_io.specs.declared.memory.MemFolder.{MemFolder}
use Rattle.stow_io.specs.declared.memory.SureFolder.{SureFolder}

-- the bytes under each name
abbrev pub files_in : MemFolder → Files
files_in folder = held folder.files

-- the calls so far and those that are to fail
abbrev pub calls_of : MemFolder → Calls
calls_of folder = folder.calls

-- the bytes under each name of a folder that never fails
abbrev pub sure_files : SureFolder → Files
sure_files folder = held folder.files
