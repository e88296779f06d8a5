-- Iarwennol. What a crate above may rely on: the definitions that the contracts of the calls cite, and laws of them.
-- The definitions are passed on shut: whoever has them from here can cite a call's result and not look into it.
pub use Rattle.codes.specs.Numbers.{unsound}
pub use Rattle.packet.specs.Types.{plain, full_header, compressed_udp, compressed_rtp}
pub use Rattle.packet.specs.declared.refusal.Refusal.{Refusal}
pub use Rattle.packet.specs.Refusal.{number_of as refusal_number, first_refusal}
pub use Rattle.packet.specs.RefusalLaws.{number_of-refused as refusal_number-refused, first_refusal-accepted}
pub use Rattle.settings.specs.declared.Settings.{Settings}
-- tables in the caller's memory
pub use Rattle.planes.specs.Planes.{Lent, lent}
-- the compressor's calls
pub use Rattle.compressor.specs.declared.table.Table.{Table as CompressorTable}
pub use Rattle.compressor.specs.Answer.{Outcome as CompressorOutcome}
pub use Rattle.compressor_table.specs.Layout.{sized as sized_compressor, table_of as compressor_of}
pub use Rattle.compressor_table.specs.Calls.{Gives as CompressorGives, open_lent as open_compressor_lent}
pub use Rattle.compressor_table.specs.CallsLaws.{open_lent-says as open_compressor-says}
pub use Rattle.compressor.specs.Answer as sending
pub use Rattle.compressor.specs.Table.{unopened as no_compressor, open_of as open_compressor_of}
pub use Rattle.compressor.specs.Send.{send_of}
pub use Rattle.compressor.specs.Request.{request_of}
pub use Rattle.compressor.proofs.TypeLaws.{send_of-type}
-- the decompressor's
pub use Rattle.decompressor.specs.declared.table.Table.{Table as DecompressorTable}
pub use Rattle.decompressor.specs.Answer.{Outcome as DecompressorOutcome}
pub use Rattle.decompressor_table.specs.Layout.{sized as sized_decompressor, table_of as decompressor_of}
pub use Rattle.decompressor_table.specs.Calls.{Gives as DecompressorGives, open_lent as open_decompressor_lent}
pub use Rattle.decompressor_table.specs.CallsLaws.{open_lent-says as open_decompressor-says}
pub use Rattle.decompressor.specs.Answer as receiving
pub use Rattle.decompressor.specs.Table.{unopened as no_decompressor, open_of as open_decompressor_of}
pub use Rattle.decompressor.specs.Receive.{receive_of}
pub use Rattle.report.specs.Report.{report_of}
pub use Rattle.report.specs.ReportLaws.{table-report_of}
pub use Rattle.saves.specs.Saves.{save_of, load_of}
pub use Rattle.load.specs.Load.{load_lent}
pub use Rattle.saves.proofs.SavesLaws.{table-save_of, load-save}
pub use Rattle.saves.proofs.LoadLaws.{load_read}
-- both
pub use Rattle.crtp.specs.FaceLaws.{open-alike, open-leaves, send-closed, request-closed, receive-closed, report-closed}
