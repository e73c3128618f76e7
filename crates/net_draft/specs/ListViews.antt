-- What contracts see of the servers of a file.
use Rattle.std.specs.Prelude.{List, map}
use Rattle.net_draft.specs.declared.server_list.ServerList.{ServerList}
use Rattle.net_draft.specs.Texts.{ServerText}
use Rattle.net_draft.specs.Views.{server_text}

abbrev pub list_texts : ServerList → List ServerText
list_texts l = map server_text l.servers.items
