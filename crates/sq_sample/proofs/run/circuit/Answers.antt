use Rattle.sq_sample.proofs.Playing.{circuit_is, never_a_fault}
use Rattle.sq_sample.proofs.run.circuit.Goals as goal

pub returns-in-Ok : goal.returns-in-Ok
returns-in-Ok c = circuit_is c.as_bytes.result.now c.in-Ok.field-0-0 c.in-Ok.circuit c.as_bytes.ensures.value c.in-Ok.ensures.program c.in-Ok.ensures.circuit

pub unreachable-requires : goal.unreachable-requires
unreachable-requires c =
    never_a_fault c.as_bytes.result.now c.in-Err-Fault.field-0 c.in-Err-Fault.field-0-0 c.as_bytes.ensures.value c.in-Err-Fault.ensures.refused c.in-Err-Fault.field-0-is
