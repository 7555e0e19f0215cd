use Rattle.std.proofs.Common.{◌≡◌, Ok, Result, ℕ, sym, subst, ◌∙◌}
use Rattle.evm_ram.specs.Images.{Contents}
use Rattle.evm_host.specs.Asks.{Loads}
use Rattle.sh_command.proofs.command.do_job.Goals as goal

pub returns : goal.returns
returns g c zero =
    let P : Result Contents ℕ → Type 0 = λ result. Loads g.S.System.opens g.S.Opened.Source.gives g.S.Output.Sink.takes g.S.Errors.Sink.takes
    c.args.job.image.now c.args.world.now c.image_at.new.world result in
    let same : c.serve-status.new.shell.scripted.image ≡ c.in-Ok.image = c.serve-status.ensures ∙ c.in-Ok-new.ensures in
    let loaded : P (Ok c.in-Ok.image) = subst P c.in-Ok.is c.image_at.ensures in
    record {
      session = c.serve-status.new.shell.scripted;
      loaded = c.image_at.new.world;
      loads = subst (λ (image : Contents). P (Ok image)) (sym same) loaded;
      served = c.serve-status.new.world.files;
      keeps = c.save_all.ensures.saved zero;
    }
