use Rattle.std.proofs.Common.{refl}
use Rattle.net_cells.specs.declared.cell.Kind.TheVariants.{In, Cross, Total, Higher, QueueService, Theta, Residual, QueueDelay, QueueBacklog, HopDelay, ShiftOut, DeconvOut, Out, PathService, Tfa, Sfa, Bound}
use Rattle.net_cells.specs.cell_table.Values.{answer_of, meaning_of}
use Rattle.cell_eval.proofs.OfKind.{made_of_kind, evaluates_kind, made_of_path, evaluates_path}
use Rattle.cell_eval.proofs.inputs.Inputs.value.Goals as goal

pub arriving-requires : goal.arriving-requires
arriving-requires g c = made_of_kind c.args.self.now.net.now (g.T.Table.at c.args.self.now.table.now) c.args.cell In c.in-In.is c.requires

pub returns-in-In : goal.returns-in-In
returns-in-In g c =
    evaluates_kind c.args.self.now.net.now (g.T.Table.at c.args.self.now.table.now) c.args.cell In c.args.steps.now c.args.steps.now
    (answer_of meaning_of c.arriving.result) c.in-In.is (c.arriving.ensures c.args.steps.now)

pub cross-requires : goal.cross-requires
cross-requires g c = made_of_kind c.args.self.now.net.now (g.T.Table.at c.args.self.now.table.now) c.args.cell Cross c.in-Cross.is c.requires

pub returns-in-Cross : goal.returns-in-Cross
returns-in-Cross g c =
    evaluates_kind c.args.self.now.net.now (g.T.Table.at c.args.self.now.table.now) c.args.cell Cross c.args.steps.now c.cross.new.steps
    (answer_of meaning_of c.cross.result) c.in-Cross.is c.cross.ensures

pub total-requires : goal.total-requires
total-requires g c = made_of_kind c.args.self.now.net.now (g.T.Table.at c.args.self.now.table.now) c.args.cell Total c.in-Total.is c.requires

pub returns-in-Total : goal.returns-in-Total
returns-in-Total g c =
    evaluates_kind c.args.self.now.net.now (g.T.Table.at c.args.self.now.table.now) c.args.cell Total c.args.steps.now c.total.new.steps
    (answer_of meaning_of c.total.result) c.in-Total.is c.total.ensures

pub higher-requires : goal.higher-requires
higher-requires g c = made_of_kind c.args.self.now.net.now (g.T.Table.at c.args.self.now.table.now) c.args.cell Higher c.in-Higher.is c.requires

pub returns-in-Higher : goal.returns-in-Higher
returns-in-Higher g c =
    evaluates_kind c.args.self.now.net.now (g.T.Table.at c.args.self.now.table.now) c.args.cell Higher c.args.steps.now c.higher.new.steps
    (answer_of meaning_of c.higher.result) c.in-Higher.is c.higher.ensures

pub serving-requires : goal.serving-requires
serving-requires g c = made_of_kind c.args.self.now.net.now (g.T.Table.at c.args.self.now.table.now) c.args.cell QueueService c.in-QueueService.is c.requires

pub returns-in-QueueService : goal.returns-in-QueueService
returns-in-QueueService g c =
    evaluates_kind c.args.self.now.net.now (g.T.Table.at c.args.self.now.table.now) c.args.cell QueueService c.args.steps.now c.serving.new.steps
    (answer_of meaning_of c.serving.result) c.in-QueueService.is c.serving.ensures

pub theta-requires : goal.theta-requires
theta-requires g c = made_of_kind c.args.self.now.net.now (g.T.Table.at c.args.self.now.table.now) c.args.cell Theta c.in-Theta.is c.requires

pub returns-in-Theta : goal.returns-in-Theta
returns-in-Theta g c =
    evaluates_kind c.args.self.now.net.now (g.T.Table.at c.args.self.now.table.now) c.args.cell Theta c.args.steps.now c.theta.new.steps
    (answer_of meaning_of c.theta.result) c.in-Theta.is c.theta.ensures

pub residual-requires : goal.residual-requires
residual-requires g c = made_of_kind c.args.self.now.net.now (g.T.Table.at c.args.self.now.table.now) c.args.cell Residual c.in-Residual.is c.requires

pub returns-in-Residual : goal.returns-in-Residual
returns-in-Residual g c =
    evaluates_kind c.args.self.now.net.now (g.T.Table.at c.args.self.now.table.now) c.args.cell Residual c.args.steps.now c.residual.new.steps
    (answer_of meaning_of c.residual.result) c.in-Residual.is c.residual.ensures

pub queue_delay-requires : goal.queue_delay-requires
queue_delay-requires g c = made_of_kind c.args.self.now.net.now (g.T.Table.at c.args.self.now.table.now) c.args.cell QueueDelay c.in-QueueDelay.is c.requires

pub returns-in-QueueDelay : goal.returns-in-QueueDelay
returns-in-QueueDelay g c =
    evaluates_kind c.args.self.now.net.now (g.T.Table.at c.args.self.now.table.now) c.args.cell QueueDelay c.args.steps.now c.queue_delay.new.steps
    (answer_of meaning_of c.queue_delay.result) c.in-QueueDelay.is c.queue_delay.ensures

pub queue_backlog-requires : goal.queue_backlog-requires
queue_backlog-requires g c = made_of_kind c.args.self.now.net.now (g.T.Table.at c.args.self.now.table.now) c.args.cell QueueBacklog c.in-QueueBacklog.is c.requires

pub returns-in-QueueBacklog : goal.returns-in-QueueBacklog
returns-in-QueueBacklog g c =
    evaluates_kind c.args.self.now.net.now (g.T.Table.at c.args.self.now.table.now) c.args.cell QueueBacklog c.args.steps.now c.queue_backlog.new.steps
    (answer_of meaning_of c.queue_backlog.result) c.in-QueueBacklog.is c.queue_backlog.ensures

pub hop_delay-requires : goal.hop_delay-requires
hop_delay-requires g c = made_of_kind c.args.self.now.net.now (g.T.Table.at c.args.self.now.table.now) c.args.cell HopDelay c.in-HopDelay.is c.requires

pub returns-in-HopDelay : goal.returns-in-HopDelay
returns-in-HopDelay g c =
    evaluates_kind c.args.self.now.net.now (g.T.Table.at c.args.self.now.table.now) c.args.cell HopDelay c.args.steps.now c.hop_delay.new.steps
    (answer_of meaning_of c.hop_delay.result) c.in-HopDelay.is c.hop_delay.ensures

pub shift_out-requires : goal.shift_out-requires
shift_out-requires g c = made_of_kind c.args.self.now.net.now (g.T.Table.at c.args.self.now.table.now) c.args.cell ShiftOut c.in-ShiftOut.is c.requires

pub returns-in-ShiftOut : goal.returns-in-ShiftOut
returns-in-ShiftOut g c =
    evaluates_kind c.args.self.now.net.now (g.T.Table.at c.args.self.now.table.now) c.args.cell ShiftOut c.args.steps.now c.shift_out.new.steps
    (answer_of meaning_of c.shift_out.result) c.in-ShiftOut.is c.shift_out.ensures

pub deconv_out-requires : goal.deconv_out-requires
deconv_out-requires g c = made_of_kind c.args.self.now.net.now (g.T.Table.at c.args.self.now.table.now) c.args.cell DeconvOut c.in-DeconvOut.is c.requires

pub returns-in-DeconvOut : goal.returns-in-DeconvOut
returns-in-DeconvOut g c =
    evaluates_kind c.args.self.now.net.now (g.T.Table.at c.args.self.now.table.now) c.args.cell DeconvOut c.args.steps.now c.deconv_out.new.steps
    (answer_of meaning_of c.deconv_out.result) c.in-DeconvOut.is c.deconv_out.ensures

pub leaving-requires : goal.leaving-requires
leaving-requires g c = made_of_kind c.args.self.now.net.now (g.T.Table.at c.args.self.now.table.now) c.args.cell Out c.in-Out.is c.requires

pub returns-in-Out : goal.returns-in-Out
returns-in-Out g c =
    evaluates_kind c.args.self.now.net.now (g.T.Table.at c.args.self.now.table.now) c.args.cell Out c.args.steps.now c.leaving.new.steps
    (answer_of meaning_of c.leaving.result) c.in-Out.is c.leaving.ensures

pub path-requires : goal.path-requires
path-requires g c = made_of_path c.args.self.now.net.now (g.T.Table.at c.args.self.now.table.now) c.args.cell PathService c.in-PathService.is refl c.requires

pub returns-in-PathService : goal.returns-in-PathService
returns-in-PathService g c =
    evaluates_path c.args.self.now.net.now (g.T.Table.at c.args.self.now.table.now) c.args.cell PathService c.args.steps.now c.path.new.steps
    (answer_of meaning_of c.path.result) c.in-PathService.is refl c.requires c.path.ensures

pub tfa-requires : goal.tfa-requires
tfa-requires g c = made_of_path c.args.self.now.net.now (g.T.Table.at c.args.self.now.table.now) c.args.cell Tfa c.in-Tfa.is refl c.requires

pub returns-in-Tfa : goal.returns-in-Tfa
returns-in-Tfa g c =
    evaluates_path c.args.self.now.net.now (g.T.Table.at c.args.self.now.table.now) c.args.cell Tfa c.args.steps.now c.args.steps.now
    (answer_of meaning_of c.tfa.result) c.in-Tfa.is refl c.requires (c.tfa.ensures c.args.steps.now)

pub sfa-requires : goal.sfa-requires
sfa-requires g c = made_of_path c.args.self.now.net.now (g.T.Table.at c.args.self.now.table.now) c.args.cell Sfa c.in-Sfa.is refl c.requires

pub returns-in-Sfa : goal.returns-in-Sfa
returns-in-Sfa g c =
    evaluates_path c.args.self.now.net.now (g.T.Table.at c.args.self.now.table.now) c.args.cell Sfa c.args.steps.now c.sfa.new.steps
    (answer_of meaning_of c.sfa.result) c.in-Sfa.is refl c.requires c.sfa.ensures

pub bound-requires : goal.bound-requires
bound-requires g c = made_of_path c.args.self.now.net.now (g.T.Table.at c.args.self.now.table.now) c.args.cell Bound c.in-Bound.is refl c.requires

pub returns-in-Bound : goal.returns-in-Bound
returns-in-Bound g c =
    evaluates_path c.args.self.now.net.now (g.T.Table.at c.args.self.now.table.now) c.args.cell Bound c.args.steps.now c.args.steps.now
    (answer_of meaning_of c.bound.result) c.in-Bound.is refl c.requires (c.bound.ensures c.args.steps.now)
