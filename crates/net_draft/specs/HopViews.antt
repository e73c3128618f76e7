-- What contracts see of a path entry.
use Rattle.net_draft.specs.declared.hops.WrittenHop.{WrittenHop}
use Rattle.net_draft.specs.Hops.{HopText}

abbrev pub hop_view : WrittenHop → HopText
hop_view w = record { name = w.name.now; queue = w.queue }
