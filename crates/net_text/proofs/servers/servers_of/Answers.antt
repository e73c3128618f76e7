use Rattle.std.proofs.Common.{◌≡◌, ◌+◌, [], ◌∷◌, ◌++◌, map, drop, sym, ap, ◌∙◌, subst}
use Rattle.std.proofs.lemmas.List.{map_push}
use Rattle.std.proofs.lemmas.Result.{err_from_is_err_and}
use Rattle.net_model.specs.Views.{server_of}
use Rattle.net_draft.specs.Kept.{IsServerDraft}
use Rattle.net_draft.specs.Views.{server_text}
use Rattle.net_text.specs.Built.{IsServerOf}
use Rattle.net_text.specs.Firsts.{services_from}
use Rattle.net_text.proofs.Firsts.{goes_on, stops, service_entry, services_more}
use Rattle.net_text.proofs.Zips.{zip_more, zip_whole}
use Rattle.net_text.proofs.servers.servers_of.Goals as goal

pub server_of-requires : goal.server_of-requires
server_of-requires c = subst IsServerDraft (sym c.index-drafts-number.is) (c.requires c.loop-number.number c.index-drafts-number.result c.loop-number-test.true)

pub returns-in_err-server-clause-over : goal.returns-in_err-server-clause-over
returns-in_err-server-clause-over c =
    let p = err_from_is_err_and c.from_residual-in_err-server.result c.from_residual-in_err-server.ensures.1 in
    let ds = c.args.drafts.now in
    let i = c.loop-number.number in
    let d = c.index-drafts-number.result in
    rw (p.1, p.2) (stops (services_from i (map server_text (drop i ds))) (services_from 0 (map server_text ds)) (service_entry i d) (services_from (i + 1) (map server_text (drop (i + 1) ds)))
    c.in_err-server.field-0.0 (services_more ds i d c.loop-number-test.true c.index-drafts-number.is) c.in_err-server.ensures.over c.loop-number.invariant.leads)

pub loop-number-preserved : goal.loop-number-preserved
loop-number-preserved c =
    let ds = c.args.drafts.now in
    let i = c.loop-number.number in
    let d = c.index-drafts-number.result in
    let xs = c.loop-number.servers.items in
    let s = c.in_ok-server.server in
    let grown : c.push.new.self.items ≡ xs ++ s ∷ [] = c.in_ok-push.ensures.items in
    let views : map server_of c.push.new.self.items ≡ map server_of xs ++ server_of s ∷ [] = ap (map server_of) grown ∙ map_push server_of xs s in
    record {
      built = rw views (zip_more IsServerOf server_text ds i d (map server_of xs) (server_of s) c.loop-number-test.true c.index-drafts-number.is c.loop-number.invariant.built c.in_ok-server.ensures.built);
      leads = goes_on (services_from i (map server_text (drop i ds))) (services_from 0 (map server_text ds)) (service_entry i d) (services_from (i + 1) (map server_text (drop (i + 1) ds)))
          (services_more ds i d c.loop-number-test.true c.index-drafts-number.is) (record { curve = (server_of s).service; is = c.in_ok-server.ensures.built.service }) c.loop-number.invariant.leads;
    }

pub returns-clause-built : goal.returns-clause-built
returns-clause-built c = zip_whole IsServerOf server_text c.args.drafts.now c.loop-number.number (map server_of c.loop-number.servers.items) c.loop-number-test.false c.loop-number.invariant.built
