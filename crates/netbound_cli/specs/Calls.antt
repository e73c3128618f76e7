-- What a command line asks for: bounds, by a call on two tables, or a text that no table changes. Own choice.
use Rattle.std.specs.Prelude.{ℕ, ◌++◌, Bool, true, false, List, [], ◌∷◌, codes, Option, Some, None}
use Rattle.netbound_cli.specs.words.Requests.{Request, Bounds, Help, Version}
use Rattle.netbound_cli.specs.declared.words.request.Bounds as asked
use Rattle.bounds_command.specs.declared.form.Form.{Form}
use Rattle.bounds_command.specs.declared.form.Form.TheVariants.{Lines, Json}
use Rattle.bounds_command.specs.Replies.{Reply, refusal}

-- the names of the two files, the bytes that a frame has on the wire beside its own, and the form of the report
pub record Call : Type 0 where
  pub ports : List ℕ
  pub links : List ℕ
  pub overhead : ℕ
  pub form : Form

abbrev pub form_of : (json : Bool) → Form
form_of true = Json
form_of false = Lines

abbrev pub call_of : Option Request → Option Call
call_of (Some (Bounds ports links overhead json)) =
    Some (record { ports = ports; links = links; overhead = overhead; form = form_of json })
call_of (Some Help) = None
call_of (Some Version) = None
call_of None = None

-- that of the code's request
abbrev pub bounds_call : asked.Bounds → Call
bounds_call b = record { ports = b.ports.now; links = b.links.now; overhead = b.overhead; form = form_of b.json }

abbrev pub files_of : Call → List (List ℕ)
files_of c = c.ports ∷ c.links ∷ []

-- those of a request: a text asks for none
abbrev pub named_by : Option Call → List (List ℕ)
named_by None = []
named_by (Some c) = files_of c

abbrev pub names_of : Option Request → List (List ℕ)
names_of request = named_by (call_of request)

-- ---- texts
abbrev pub usage : Reply
usage = refusal 2 (codes "usage: netbound PORTS.csv LINKS.csv [--overhead N] [--json]")

abbrev pub version : Reply
version = record { status = 0; bytes = codes "netbound 1.0.0\n" }

abbrev pub help : Reply
help = record {
  status = 0;
  bytes =
      codes "netbound PORTS.csv LINKS.csv [--overhead N] [--json]\n"
      ++ codes "\n"
      ++ codes "Upper bounds on the delays and backlogs of a switched network, proved for every run that keeps its tables.\n"
      ++ codes "\n"
      ++ codes "  PORTS.csv     columns name, rate (Mbit/s), latency, link (microseconds), discipline "
      ++ codes "(fifo, priority N\n"
      ++ codes "                or drr Q0 Q1 .. in bytes); gate (CYCLE SLOT in microseconds) where there are gates\n"
      ++ codes "  LINKS.csv     a row for each branch of a multicast link: columns name, bag "
      ++ codes "(milliseconds), largest_frame\n"
      ++ codes "                (bytes), jitter (microseconds), priority, path (ports with spaces between "
      ++ codes "them); deadline\n"
      ++ codes "                (microseconds) where there are deadlines\n"
      ++ codes "  --overhead N  bytes that a frame has on the wire beside its own, 0 to 1048576; 20 where "
      ++ codes "it is not told\n"
      ++ codes "  --json        the report as one JSON value\n"
      ++ codes "  --help        this text\n"
      ++ codes "  --version     which version this is\n"
      ++ codes "\n"
      ++ codes "Status: 0 each deadline is met, 9 a deadline is missed, 1 a table is too long or has a "
      ++ codes "fault, 2 the words\n"
      ++ codes "are not taken, 3 a file cannot be read, 4 the output cannot be written, 5 out of memory, "
      ++ codes "8 the links go\n"
      ++ codes "round\n";
}

-- the reply that no table changes
abbrev pub text_of : Option Request → Option Reply
text_of None = Some usage
text_of (Some Help) = Some help
text_of (Some Version) = Some version
text_of (Some (Bounds ports links overhead json)) = None
