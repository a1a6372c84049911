use Rattle.std.proofs.Common.{refl}
use Rattle.tk_process.specs.Coordinating.EndsCoordinator.{Ran, Unhosted}
use Rattle.tk_process.proofs.coordinate.serve_coordinator.Goals as goal

pub returns-in-Err-host-clause-ends : goal.returns-in-Err-host-clause-ends
returns-in-Err-host-clause-ends g c = Unhosted c.in-Ok.input c.in-Err-host.fault c.in-Ok.ensures.read c.status_by_net.ensures refl

pub returns-clause-ends : goal.returns-clause-ends
returns-clause-ends g c = Ran c.in-Ok.input c.coordinate-ended.result c.in-Ok.ensures.read c.status_by.ensures c.coordinate-ended.ensures.coordinates
