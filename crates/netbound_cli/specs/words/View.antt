-- What the code's request stands for.
use Rattle.std.specs.Prelude.{◌≡◌, ◌≤◌, Result, Ok, Err, Option, Some, None}
use Rattle.clap.specs.declared.error.kind.ErrorKind.{ErrorKind}
use Rattle.clap.specs.declared.error.kind.ErrorKind.TheVariants as kind
use Rattle.netbound_cli.specs.words.Requests as requests
use Rattle.netbound_cli.specs.declared.words.request.Bounds.{Bounds}
use Rattle.netbound_cli.specs.declared.words.request.Request.{Request}
use Rattle.netbound_cli.specs.declared.words.request.Request.TheVariants as asked
use Rattle.netbound_cli.specs.declared.words.request.WordFault.{WordFault}
use Rattle.netbound_cli.specs.declared.words.request.WordFault.TheVariants.{NotTaken, NoMemory}

abbrev pub bounds_view : Bounds → requests.Request
bounds_view b = requests.Bounds b.ports.now b.links.now b.overhead b.json

abbrev pub request_view : Request → requests.Request
request_view (asked.Bounds b) = bounds_view b
request_view asked.Help = requests.Help
request_view asked.Version = requests.Version

-- what a call answers: what the words ask for, or that they are not taken; want of memory says nothing
abbrev pub TellsRequest : Result Request WordFault → Option requests.Request → Type 0
TellsRequest (Ok r) asked = asked ≡ Some (request_view r)
TellsRequest (Err NotTaken) asked = asked ≡ None
TellsRequest (Err NoMemory) asked = Unit {0}

-- what is made of a refusal of `clap`
abbrev pub IsRefusal : ErrorKind → Result Request WordFault → Type 0
IsRefusal kind.DisplayHelp r = r ≡ Ok asked.Help
IsRefusal kind.DisplayVersion r = r ≡ Ok asked.Version
IsRefusal kind.OutOfMemory r = r ≡ Err NoMemory
IsRefusal other r = r ≡ Err NotTaken

-- an overhead that can be added to frames
abbrev pub HasOverhead : Request → Type 0
HasOverhead (asked.Bounds b) = b.overhead ≤ 1048576
HasOverhead asked.Help = Unit {0}
HasOverhead asked.Version = Unit {0}
