use Rattle.std.proofs.Common.{◌≡◌, drop}
use Rattle.outside.specs.MemoryFiles.{held, files_of}
use Rattle.outside.proofs.mem_inputs.find_file.Given as goal

abbrev pub invariant-loop-file : goal.invariant-loop-file
invariant-loop-file l = held (files_of (drop l.file-index l.files)) l.name ≡ held (files_of l.files) l.name
